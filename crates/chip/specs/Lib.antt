pub mod Sensor
pub mod Chip
