-- What the bytes of a file give, as they come.
pub mod FirstFaults
pub mod Prefixes
pub mod Images
pub mod Sizes
