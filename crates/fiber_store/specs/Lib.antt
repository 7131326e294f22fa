pub mod Stores
pub mod Fibers
pub mod TwoTensors
