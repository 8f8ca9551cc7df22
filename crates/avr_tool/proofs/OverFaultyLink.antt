-- A session over any link, action by action: what it leaves, in which order.
pub mod FirstSteps
pub mod FrameSizes
pub mod EachAction
pub mod Sessions
pub mod Outcomes
pub mod Calls
pub mod WriteOperations
pub mod WriteOperationOrder
