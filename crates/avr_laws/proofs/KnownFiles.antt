-- What a run leaves of files and a tape.
pub mod SeenFiles
pub mod LongerTape
pub mod PastUses
