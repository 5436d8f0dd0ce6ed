pub mod Steps
pub mod Searches
pub mod Levels
pub mod Swaps
pub mod Refuted
