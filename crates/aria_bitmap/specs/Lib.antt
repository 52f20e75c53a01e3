pub mod Code
pub mod Pattern
pub mod Promise
pub mod Sought
