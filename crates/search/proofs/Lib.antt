pub mod Bytes
pub mod Onward
pub mod Call
pub mod Unique
