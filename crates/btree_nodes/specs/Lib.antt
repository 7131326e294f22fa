pub mod Weaving
pub mod Splits
pub mod Descents
pub mod Links
pub mod Writes
pub mod Trials
