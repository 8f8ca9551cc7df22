-- in the order in which to read; the list beside a folder says what the folder holds
pub mod FileUses
pub mod Desks
pub mod Rows
