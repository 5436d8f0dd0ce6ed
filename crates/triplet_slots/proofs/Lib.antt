pub mod ThreeSlots
pub mod Settled
pub mod Unique
