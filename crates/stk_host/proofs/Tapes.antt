-- Replies on a tape, and the links that give them.
pub mod Readings
pub mod Prefixes
pub mod TapeLinks
