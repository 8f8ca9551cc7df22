-- in the order in which to read; the list beside a folder says what the folder holds
pub mod Lemmas
pub mod Rows
pub mod Fields
pub mod Texts
pub mod Places
pub mod Walks
pub mod Stored
