pub mod LogPage
pub mod Frames
pub mod Front
pub mod Places
pub mod Runs
pub mod Log
pub mod Collected
pub mod Opened
