-- Lines and bytes that are written piece by piece.
pub mod SentBytes
pub mod FailureCounts
pub mod Pieces
pub mod ReportedAs
