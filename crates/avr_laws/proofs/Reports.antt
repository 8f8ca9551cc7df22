-- What is reported is true, and is what the expected run reports, up to the first fault.
pub mod Truth
pub mod UpToFault
pub mod OverTape
pub mod Rows
