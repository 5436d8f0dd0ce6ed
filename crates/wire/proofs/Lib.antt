pub mod Beside
pub mod Tables
pub mod Listens
pub mod Turns
pub mod Calmness
pub mod Quiet
pub mod Kept
pub mod Unique
