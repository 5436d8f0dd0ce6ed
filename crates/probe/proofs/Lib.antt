pub mod Rests
pub mod Unique
