-- The places of an image with something to write or to compare.
pub mod PagesAndRuns
pub mod Differences
