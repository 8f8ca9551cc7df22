-- Attempts, steps and operations, in the order of the code.
pub mod Attempts
pub mod StepEnds
pub mod Steps
pub mod Reads
