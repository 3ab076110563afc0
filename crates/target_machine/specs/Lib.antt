pub mod Decisions
pub mod Machine
pub mod Own
pub mod Stages
pub mod Booting
pub mod Boots
pub mod Disks
