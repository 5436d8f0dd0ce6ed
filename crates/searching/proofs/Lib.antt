pub mod Words
pub mod Wire
pub mod Holds
pub mod Pass
pub mod Outcomes
pub mod Facts
