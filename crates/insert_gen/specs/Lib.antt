pub mod Rows
pub mod Needs
pub mod Below
pub mod Inserting
pub mod Replacing
pub mod Trials
