-- A session over a link on which few frames go wrong goes as its expected run.
pub mod Exchanges
pub mod Sessions
