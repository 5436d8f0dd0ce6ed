pub mod Writes
pub mod Effects
pub mod Reach
pub mod Results
pub mod Unique
pub mod Eight
