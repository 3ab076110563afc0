pub mod Judged
pub mod WrittenFiles
pub mod Cases
pub mod EqualityLemmas
pub mod TextLemmas
pub mod VerdictLemmas
