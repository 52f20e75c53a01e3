pub mod Holds
pub mod Store
pub mod Done
pub mod Outcomes
pub mod Turns
pub mod Changing
pub mod Entries
pub mod Opening
