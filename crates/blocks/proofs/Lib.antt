pub mod Bits
pub mod Arrays
