-- Runs over a wire are runs along exchanges.
pub mod Plays
pub mod WireTapes
pub mod InTurn
