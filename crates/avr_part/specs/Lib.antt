-- the meaning: what contracts of public calls cite
pub mod Mem
pub mod Part
pub mod BuiltIn
pub mod Fault
pub mod PartFile
pub mod Instruction
pub mod Memory
pub mod State
pub mod Block
pub mod Sound
pub mod ChipFile
pub mod Laws
-- inside: how things are stored, and contracts of private functions
pub mod Chip
