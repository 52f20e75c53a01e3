pub mod ControlPage
pub mod Found
pub mod Written
