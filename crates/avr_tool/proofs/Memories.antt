-- What a verified run leaves in the memories.
pub mod ExpectedAgrees
pub mod LaidImages
pub mod VerifiedRuns
