-- the definitions that contracts of public calls cite
pub mod Tape
pub mod Transcript
pub mod Dialog
pub mod Play
pub mod Steps
pub mod Places
pub mod WriteSteps
pub mod ReadSteps
pub mod Operations
pub mod Bound
pub mod Reach
pub mod Calls
pub mod State
pub mod Links
pub mod Watching
-- representations
pub mod Log
-- of the crates below, the definitions that public contracts cite
pub use Rattle.avr_part.specs.Part
pub use Rattle.ghosts.specs.Preserves
