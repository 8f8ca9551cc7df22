-- How blocks, pages, runs and images change and read the part's memories.
pub mod Blocks
pub mod LaidImages
pub mod Runs
pub mod Pages
pub mod BlocksRead
pub mod BlocksAtOnce
