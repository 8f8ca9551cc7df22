-- Transcripts of a link, as they go on in a dialog.
pub mod Laws
pub mod InDialogs
pub mod Sending
pub mod Listening
pub mod Reached
pub mod Logs
pub mod Streams
