pub mod Links
pub mod Reached
pub mod Rules
pub mod Breaches
