pub mod Buffer
pub mod Forming
