pub mod Front
pub mod Steps
pub mod Each
pub mod Places
pub mod Refusals
pub mod Unique
