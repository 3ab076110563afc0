pub mod Names
pub mod Ratios
pub mod Statuses
pub mod WrittenFiles
