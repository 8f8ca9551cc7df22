-- What a reader keeps of the lines that it was fed, and which fault is first.
pub mod LaterLines
pub mod Held
pub mod Fed
pub mod Extents
pub mod NeededSize
pub mod WholeFiles
pub mod FirstBytes
