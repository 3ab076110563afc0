pub mod CheckSums
