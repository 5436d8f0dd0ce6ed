pub mod Seal
pub mod Taken
pub mod Unique
