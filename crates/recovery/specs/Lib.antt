pub mod FormerLoads
pub mod FormerParts
pub mod Formers
pub mod Listings
pub mod Outlines
pub mod Parts
pub mod Surveys
