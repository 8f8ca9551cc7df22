-- How texts are read as values and raw bytes, and written as lists.
pub mod Pieces
pub mod Digits
pub mod RawBytes
pub mod Values
pub mod ValueLists
