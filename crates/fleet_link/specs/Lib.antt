pub mod Lines
pub mod Reading
pub mod FleetMail
pub mod FleetPlans
pub mod FleetLinks
pub mod FleetFollowed
