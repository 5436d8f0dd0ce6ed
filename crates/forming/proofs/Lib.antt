pub mod Buffer
pub mod Limits
pub mod Forming
pub mod Refusals
pub mod Unique
