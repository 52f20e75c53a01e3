mod AfterCrash
pub mod Answered
mod Causes
mod Crashed
pub mod Files
mod Front
mod MemCalls
mod NameLists
mod Named
mod OnePass
mod Table
mod Unique
pub mod Moments
