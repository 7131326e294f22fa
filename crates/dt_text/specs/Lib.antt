pub mod Content
pub mod Lexer
pub mod Numerals
pub mod Spans
pub mod Values
