pub mod Lexing
pub mod Reading
pub mod Texts
pub mod Writing
pub mod Defining
