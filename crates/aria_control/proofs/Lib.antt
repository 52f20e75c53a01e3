mod Kept
mod Others
mod Spelled
