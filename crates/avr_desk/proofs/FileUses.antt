-- Uses of files.
pub mod Uses
pub mod Calls
