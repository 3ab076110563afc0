pub mod Finishes
pub mod Scripts
