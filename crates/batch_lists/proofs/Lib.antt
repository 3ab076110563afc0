pub mod BatchesSizes
pub mod BatchesSpelled
pub mod BatchesFit
pub mod BatchPieces
pub mod BatchSizes
pub mod BatchSpelled
pub mod BatchWritten
pub mod NeverMemory
