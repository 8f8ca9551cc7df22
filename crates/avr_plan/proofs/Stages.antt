-- Planning, stage by stage.
pub mod Images
pub mod ReportedAs
pub mod Parts
pub mod Values
pub mod Tasks
pub mod Plans
