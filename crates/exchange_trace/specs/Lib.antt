pub mod FaultTexts
pub mod Happenings
pub mod Steps
pub mod Posts
pub mod Logs
pub mod Lines
pub mod Scripts
pub mod Following
