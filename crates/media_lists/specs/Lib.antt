pub mod Paths
pub mod Lists
pub mod Entries
pub mod NameOrder
pub mod ListFields
pub mod Files
pub mod Loads
pub mod ListFaultText
