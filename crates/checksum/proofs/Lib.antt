pub mod Shift
pub mod Table
pub mod Unique
