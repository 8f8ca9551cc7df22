-- in the order in which to read: limits and refusals; the cutting, a reader that is fed, and bodies that are read back
pub mod Rows
pub mod Cuts
pub mod FedReaders
pub mod Laws
pub mod DecodedBodies
