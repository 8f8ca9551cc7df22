-- The programmer's replies, and its state after each command.
pub mod Texts
pub mod BodySizes
pub mod Commands
