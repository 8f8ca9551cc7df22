-- How bytes of images come to be in the memories.
pub mod Bytes
pub mod FlashBytes
pub mod WrittenThere
