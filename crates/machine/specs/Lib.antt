pub mod Machine
pub mod Keeping
