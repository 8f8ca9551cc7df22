-- What a plan's actions and items are, and that they fit the part.
pub mod Standings
pub mod Items
pub mod Fits
pub mod Calls
