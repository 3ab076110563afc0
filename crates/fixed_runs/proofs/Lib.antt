pub mod Fixed
pub mod StaysUp
pub mod Whole
