-- How much a session asks and receives.
pub mod Questions
