pub mod Frame
pub mod Cut
pub mod Reader
pub mod Commands
pub mod Decoding
pub mod HostCommands
pub mod Faults
pub mod Names
