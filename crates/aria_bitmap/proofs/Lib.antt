pub mod Digits
pub mod Patterns
pub mod Promises
pub mod Directory
mod Seeking
mod Runs
