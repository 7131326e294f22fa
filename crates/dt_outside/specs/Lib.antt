pub mod Faults
pub mod MemoryFiles
pub mod States
