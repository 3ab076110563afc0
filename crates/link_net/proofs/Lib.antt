pub mod Fates
pub mod Gives
pub mod NoUnits
pub mod Parts
pub mod Readings
pub mod Sides
pub mod Turns
pub mod FollowedLemmas
