pub mod Pairs
pub mod Wire
pub mod Calm
