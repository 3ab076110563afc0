pub mod Sections
pub mod SectionFields
