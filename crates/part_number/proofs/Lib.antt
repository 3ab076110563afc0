pub mod Characters
pub mod Faults
pub mod Judged
pub mod Laws
pub mod Digits
pub mod Reading
pub mod Texts
pub mod VerdictLemmas
