pub mod Content
pub mod Sound
pub mod Trace
pub mod Holds
pub mod Step
pub mod Counting
pub mod Reading
pub mod Refusing
