pub mod Tree
pub mod Bits
pub mod Passes
pub mod Order
pub mod Leaves
