pub mod Versions
pub mod Refuted
