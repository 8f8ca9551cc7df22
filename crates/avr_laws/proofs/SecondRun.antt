-- A second run of the same plan, over what the first one left.
pub mod NetWrites
pub mod ErasesTwice
pub mod EveryChip
pub mod Status
pub mod PlanRows
pub mod CutRows
