-- Worked operations, and outcomes that contracts refuse.
pub mod Operations
pub mod Ends
