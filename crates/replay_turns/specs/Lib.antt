pub mod Ends
pub mod Orders
pub mod Powers
pub mod Recordings
pub mod StepsOnDisks
pub mod Targets
pub mod Turns
