-- Bytes put and removed, address by address.
pub mod Laid
pub mod ByAddress
pub mod Removed
