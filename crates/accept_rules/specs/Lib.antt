pub mod Permissions
pub mod Interlocks
pub mod Closures
pub mod Laws
