pub mod Cursor
pub mod Grammar
pub mod Answers
pub mod Spelling
pub mod Fields
pub mod OneSpelling
