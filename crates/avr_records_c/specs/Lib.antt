pub mod Numbers
pub mod FaultText
pub mod Bitmap
pub mod Reading
pub mod Cursor
pub mod Writing
pub mod RoundTrip
-- names from the crates below that public contracts use
pub use Rattle.avr_image.specs.Image
