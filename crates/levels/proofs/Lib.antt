pub mod Turns
pub mod Filled
