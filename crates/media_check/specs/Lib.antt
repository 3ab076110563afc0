pub mod Kept
pub mod Batches
pub mod Sets
pub mod HostNames
pub mod Openings
pub mod BuiltSets
pub mod Findings
