pub mod Complete
pub mod Sample
