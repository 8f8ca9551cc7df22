-- The data of each step, and the memories after the first steps.
pub mod LongerTape
pub mod ReadReplies
pub mod FirstSteps
pub mod EachStep
pub mod WholeMemories
pub mod Comparisons
