pub mod Buffer
pub mod Events
pub mod Unique
