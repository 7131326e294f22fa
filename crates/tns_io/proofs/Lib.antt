pub mod TnsLemmas
pub mod WrittenLines
pub mod ReadingBack
pub mod ReadPairs
