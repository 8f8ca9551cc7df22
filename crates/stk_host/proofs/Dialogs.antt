-- Dialogs composed, their one logic, and how much they ask.
pub mod Bound
pub mod Logic
pub mod Lifted
pub mod Questions
