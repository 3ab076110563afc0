pub mod Newest
pub mod Recorded
pub mod Stepping
pub mod Speaking
pub mod Taking
pub mod BootLemmas
pub mod PowerLemmas
pub mod StepLemmas
