pub mod Sound
pub mod Demand
pub mod Contract
pub mod Swaps
