pub mod FlashDisk
pub mod NetworkLink
pub mod OwnTypes
