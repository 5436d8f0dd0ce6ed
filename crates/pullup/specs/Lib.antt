pub mod Pullup
