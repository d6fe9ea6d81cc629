pub mod Bits
pub mod Effects
