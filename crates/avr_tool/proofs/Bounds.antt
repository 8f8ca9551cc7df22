-- How much a session sends.
pub mod Weights
pub mod WireFrames
