pub mod Line
pub mod Choice
pub mod Telling
pub mod Listing
pub mod Start
pub mod Display
pub mod Looking
