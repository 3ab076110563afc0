pub mod Bringing
pub mod Finding
pub mod Rolled
