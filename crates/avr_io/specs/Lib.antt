-- what contracts of public calls cite
pub mod Fault
pub mod Record
pub mod Stream
pub mod Files
pub mod Named
pub mod Lines
pub mod OutputEvents
pub mod Stage
pub mod StageRuns
-- names from the crates below that public contracts use
pub use Rattle.ghosts.specs.Preserves
