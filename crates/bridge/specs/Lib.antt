pub mod Bridge
pub mod Eight
pub mod Reached
