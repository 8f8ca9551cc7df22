-- in the order in which to read; the list beside a folder says what the folder holds
pub mod Tapes
pub mod Transcripts
pub mod Dialogs
pub mod Operations
pub mod ImagePlaces
pub mod Rows
