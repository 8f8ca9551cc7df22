-- in the order in which to read: blocks and changes of memories; names and part files; changes done twice; chip files
pub mod Blocks
pub mod Changes
pub mod CheckedParts
pub mod MemoryNames
pub mod Powers
pub mod Twice
pub mod ChipFiles
pub mod LineCounts
