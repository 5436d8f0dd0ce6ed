pub mod Back
pub mod Again
pub mod Unique
