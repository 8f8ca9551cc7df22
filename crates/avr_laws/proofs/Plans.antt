-- Planning, stage by stage: what fits, what is asked for, and what is read.
pub mod Items
pub mod Fitted
pub mod EachStage
pub mod FilesRead
pub mod AskedPlan
pub mod Given
pub mod OnlyReading
