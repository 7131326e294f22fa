pub mod Codes
pub mod Frames
pub mod Paths
pub mod Readiness
pub mod Putting
pub mod Listing
pub mod Building
pub mod Preparing
