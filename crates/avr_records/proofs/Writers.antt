-- Written texts are those of the definitions, and read back.
pub mod Pieces
pub mod Lines
pub mod Reread
pub mod Srec
pub mod Ihex
pub mod Sparse
pub mod SparseWalk
pub mod RunWalk
