-- What a text holds, if its reader finds no fault.
pub mod Sized
pub mod Parts
pub mod Values
pub mod Records
pub mod Files
pub mod Chip
