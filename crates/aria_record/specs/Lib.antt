pub mod RecordKind
pub mod Spelled
pub mod Groups
pub mod Reading
pub mod Logged
pub mod Writing
pub mod InPlace
