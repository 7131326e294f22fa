pub mod Marks
pub mod ReachedLemmas
pub mod NamingLemmas
pub mod BreachesLemmas
