-- Runs over any tape are runs along exchanges; a link that forges a frame, and a test for one that forges none.
pub mod Ends
pub mod AnyTape
pub mod NoForgedFrame
pub mod FirstFrames
pub mod NoneForgedTest
pub mod MadeFrame
pub mod Damaged
