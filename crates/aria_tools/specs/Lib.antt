pub mod Words
pub mod Held
pub mod Statuses
pub mod Stops
pub mod Endings
pub mod LogEndings
pub mod Pieces
pub mod Sessions
