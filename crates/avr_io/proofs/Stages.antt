-- Stages that open and check files, one after another, and where one broke off.
pub mod Outputs
pub mod Played
pub mod Openings
pub mod Files
pub mod Breaks
