pub mod Bytes
pub mod Body
pub mod Packet
pub mod Meaning
pub mod Answer
pub mod Obeying
