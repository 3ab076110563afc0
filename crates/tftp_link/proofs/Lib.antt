pub mod Fits
pub mod AckLemmas
pub mod ArrivalLemmas
pub mod FileLemmas
pub mod RepeatLemmas
