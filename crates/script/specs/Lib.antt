pub mod Pair
pub mod Script
