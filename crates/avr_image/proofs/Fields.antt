-- The bits and fields of an image, as the code finds and makes them.
pub mod Masks
pub mod Shown
pub mod Equality
