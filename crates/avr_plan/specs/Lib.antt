-- what contracts of public calls cite: of the command line, and of plans
pub mod Split
pub mod Update
pub mod Port
pub mod Standard
pub mod Settings
pub mod Command
pub mod Faults
pub mod Lines
pub mod ImageFile
pub mod ImageReading
pub mod Plan
pub mod Planning
pub mod PlanFaults
pub mod AllocationPoints
-- inside: representations, and contracts of private functions
pub mod Intake
-- what they cite of the crates below
pub use Rattle.avr_io.specs.Fault
pub use Rattle.avr_io.specs.StageRuns
pub use Rattle.avr_io.specs.Record
pub use Rattle.avr_io.specs.Stage
pub use Rattle.ghosts.specs.Failures
pub use Rattle.ghosts.specs.Preserves
