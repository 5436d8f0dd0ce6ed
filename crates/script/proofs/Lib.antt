pub mod Events
pub mod Held
pub mod Numbers
pub mod Unique
