pub mod Talks
pub mod Replies
pub mod Positions
pub mod Laws
pub mod Steps
pub mod Retries
