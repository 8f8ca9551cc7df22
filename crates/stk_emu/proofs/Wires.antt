-- What arrives over a wire, and what each of its calls preserves.
pub mod NoiseCuts
pub mod Waiting
pub mod Kept
pub mod Arrivals
pub mod Unsent
