-- The records of the desks, call after call.
pub mod InMemory
pub mod TwoWriters
pub mod Held
