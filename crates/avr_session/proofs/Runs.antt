-- A run over a link and a desk: where it stops, and its outcome.
pub mod Stops
pub mod Calls
pub mod Outcomes
pub mod SoundDevices
