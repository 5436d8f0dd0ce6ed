pub mod Walked
pub mod Next
pub mod Unique
