-- the meaning: what contracts of public calls cite
pub mod Image
pub mod Walk
pub mod Fault
pub mod Raw
pub mod Values
pub mod Lists
pub mod ByAddress
pub mod Runs
pub mod Overlap
-- the inside: how images are stored, and what contracts of private functions cite
pub mod Present
pub mod Dense
