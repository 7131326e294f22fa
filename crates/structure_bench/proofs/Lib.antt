pub mod NumberedLemmas
pub mod GrowingLemmas
