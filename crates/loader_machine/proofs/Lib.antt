pub mod Closing
pub mod Following
pub mod Requests
pub mod Turning
pub mod Serving
pub mod Sessions
