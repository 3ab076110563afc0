pub mod SectionLemmas
pub mod SizeLemmas
pub mod WrittenLemmas
