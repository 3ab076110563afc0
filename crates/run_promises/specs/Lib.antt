pub mod Listing
pub mod Promises
pub mod Reports
pub mod TellableSets
