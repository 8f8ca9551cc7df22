-- Any programmer that keeps the table: its rows are the steps of a host, and a plan that suits its sheet is kept.
pub mod GoodReplies
pub mod Steps
pub mod RealOf
pub mod ByTasks
pub mod Emulated
pub mod Kept
pub mod AnyStatus
