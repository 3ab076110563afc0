pub mod FaultText
pub mod PartNumber
pub mod Verdicts
