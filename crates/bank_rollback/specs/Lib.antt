pub mod Beside
pub mod Faults
pub mod Rollbacks
