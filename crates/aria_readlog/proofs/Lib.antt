pub mod Words
pub mod Telling
pub mod Listed
pub mod Names
pub mod Started
pub mod Answering
pub mod Displayed
