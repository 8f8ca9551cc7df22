-- What status 0 means, and outcomes that are refused.
pub mod Alike
pub mod SavedTexts
pub mod ByTasks
pub mod Saved
pub mod Openings
pub mod Promise
pub mod OtherPart
pub mod OwnSignature
pub mod Kept
pub mod Begun
pub mod Spared
pub mod TwoRuns
pub mod OverDamage
pub mod Refused
