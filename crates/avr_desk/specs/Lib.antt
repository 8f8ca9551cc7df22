-- what contracts of public calls cite
pub mod Looks
pub mod Memory
pub mod Truth
pub mod Failing
pub mod Watching
pub mod Journal
pub mod Handles
pub mod Shown
pub mod Calls
-- inside: how things are stored, and contracts of private functions
pub mod OpenFile
-- names from the crates below that public contracts use
pub use Rattle.ghosts.specs.Failures
pub use Rattle.ghosts.specs.Preserves
