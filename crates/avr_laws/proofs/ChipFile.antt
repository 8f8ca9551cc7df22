-- Runs over the emulator and its chip file.
pub mod Found
pub mod KilledRuns
pub mod Killed
pub mod Others
pub mod Promised
pub mod Left
