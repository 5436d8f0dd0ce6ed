pub mod Triplet
