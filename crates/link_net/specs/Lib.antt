pub mod Lines
pub mod Reading
pub mod Links
pub mod Mail
pub mod Plans
pub mod FailLink
pub mod Followed
