-- The walks over an image, and its runs.
pub mod Places
pub mod Runs
