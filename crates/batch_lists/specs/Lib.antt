pub mod BatchFaults
pub mod Batches
pub mod Batch
pub mod BatchFields
pub mod FaultTexts
