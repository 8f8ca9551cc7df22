-- Each step of a host leads from its memories to those that it leaves, by write operations that are counted.
pub mod EachMemory
pub mod Conditions
pub mod Steps
pub mod OutsideMode
pub mod Places
pub mod Pages
pub mod Runs
pub mod Items
pub mod StepCounts
pub mod Counts
