-- Actions, operations and reports of a session, one after another.
pub mod Actions
pub mod FaultsReported
pub mod Reports
pub mod Operations
pub mod Parts
pub mod Sequences
pub mod Saves
pub mod Trimmed
