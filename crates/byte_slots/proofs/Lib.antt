pub mod Digits
pub mod Foresight
pub mod Resting
pub mod Whole
pub mod Turns
pub mod Unique
