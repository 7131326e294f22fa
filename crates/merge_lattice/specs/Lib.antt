pub mod Lattices
pub mod Soundness
pub mod Points
