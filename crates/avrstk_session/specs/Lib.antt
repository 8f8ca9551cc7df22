pub mod Outline
pub mod Session
