pub mod Pass
pub mod Passes
