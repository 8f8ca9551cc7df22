-- The settings of an accepted command line.
pub mod Cuts
pub mod Ports
pub mod Updates
pub mod Settings
