mod Languages
mod Telling
mod Lists
mod OneToken
mod Productions
mod Lookahead
mod Statements
pub mod Ended
pub mod Answering
mod OneAnswer
pub mod Offsets
pub mod Inside
pub mod Lines
pub mod Scripts
pub mod Clipping
pub mod OneLine
mod Quotes
pub mod Acknowledged
pub mod Journal
pub mod Worlds
pub mod Kept
pub mod SpentLog
mod Worked
