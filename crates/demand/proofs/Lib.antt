pub mod Withdrawn
pub mod Reached
pub mod Search
pub mod Demand
pub mod New
pub mod Swaps
