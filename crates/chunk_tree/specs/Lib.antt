pub mod Ways
pub mod Writes
pub mod Descents
pub mod Relinking
pub mod Balancing
pub mod Numbering
pub mod Trials
pub mod RowTrials
