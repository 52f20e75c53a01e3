pub mod Entries
pub mod Keyed
pub mod Sought
pub mod Found
pub mod Without
pub mod Worlds
mod Stopping
pub mod Outcomes
pub mod Kept
pub mod Quiet
pub mod Changed
pub mod SetColumns
pub mod KeyNumbers
pub mod Updates
pub mod Seeking
pub mod LastSet
