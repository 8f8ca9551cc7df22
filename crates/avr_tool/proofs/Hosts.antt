-- What a host does after any exchanges, in the logic of dialogs.
pub mod AnyExchange
pub mod Attempts
pub mod Operations
pub mod OneLink
pub mod Outputs
pub mod FrameSizes
