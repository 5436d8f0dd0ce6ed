pub mod Configurations
pub mod Pullup
