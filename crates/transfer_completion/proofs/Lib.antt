pub mod BlockLemmas
pub mod MoveLemmas
pub mod PastLemmas
pub mod ReplyLemmas
pub mod RetryLemmas
pub mod StaleLemmas
pub mod TalkLemmas
