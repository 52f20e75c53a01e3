pub mod Token
pub mod Grammar
pub mod Spelling
pub mod World
pub mod Step
pub mod Text
pub mod Script
pub mod Journal
