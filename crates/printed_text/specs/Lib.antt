pub mod FaultTexts
pub mod Lines
