pub mod BatchText
pub mod HeaderText
pub mod Kinds
pub mod ListText
pub mod ProtocolText
pub mod Shown
pub mod UserLine
