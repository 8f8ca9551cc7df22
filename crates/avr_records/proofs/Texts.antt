-- Digits, sums, line ends and places of one record.
pub mod Sums
pub mod Digits
pub mod Places
pub mod LineEnds
