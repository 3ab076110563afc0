pub mod Encoding
pub mod Header
pub mod HeaderFaultText
pub mod HeaderFields
pub mod HeaderChanges
