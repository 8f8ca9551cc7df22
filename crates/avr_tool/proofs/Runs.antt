-- Planning and session as one run.
pub mod Joined
