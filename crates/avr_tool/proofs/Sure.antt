-- A session over a link on which every step gives its data goes as its expected run.
pub mod Exchanges
pub mod Good
pub mod Calls
pub mod Sessions
