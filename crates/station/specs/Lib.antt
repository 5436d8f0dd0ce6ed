pub mod Station
pub mod Reached
