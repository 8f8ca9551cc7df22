pub mod Failures
pub mod Preserves
