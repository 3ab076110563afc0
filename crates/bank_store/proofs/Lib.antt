pub mod Activated
pub mod Begun
pub mod Carried
pub mod Continuing
mod Copying
pub mod Footprint
mod Formatted
pub mod Gates
pub mod Giving
pub mod Images
pub mod Keeping
pub mod Kept
mod KeptLoads
pub mod KnownRead
pub mod Layouts
pub mod Moments
pub mod Near
pub mod Opened
pub mod Premises
pub mod Reading
pub mod Readopted
pub mod Ready
pub mod Rests
pub mod Sealing
mod Shutting
pub mod Sizes
pub mod Working
pub mod Written
pub mod KnownLemmas
