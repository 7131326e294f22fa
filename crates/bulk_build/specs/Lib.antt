pub mod Building
pub mod Layouts
