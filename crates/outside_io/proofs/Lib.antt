pub mod CollectedLemmas
pub mod StreamLemmas
pub mod WritingLemmas
