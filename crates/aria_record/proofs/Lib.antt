pub mod Lengths
pub mod Lent
pub mod Readers
pub mod Parts
pub mod Records
pub mod Sizes
pub mod Writers
pub mod InPlaces
