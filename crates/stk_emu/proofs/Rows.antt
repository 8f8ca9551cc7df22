-- Worked examples of replies, effects and restarts.
pub mod Replies
pub mod Effects
pub mod Restarts
