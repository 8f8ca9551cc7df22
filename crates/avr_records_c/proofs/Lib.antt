-- in the order in which to read: bits, bitmaps of images and walks over them, rooms, cursors, lengths, the round trip
pub mod Bits
pub mod Maps
pub mod Walks
pub mod Rooms
pub mod Cursors
pub mod Lengths
pub mod RoundTrip
pub mod Rows
