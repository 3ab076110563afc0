pub mod FleetTraces
pub mod FleetPosts
pub mod FleetLines
pub mod FleetFollowing
pub mod OwnScripts
pub mod FleetFinishes
pub mod Merging
pub mod FleetScripts
