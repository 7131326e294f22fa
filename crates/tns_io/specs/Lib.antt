pub mod Faults
pub mod Tns
pub mod Written
