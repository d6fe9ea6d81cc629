pub mod Condition
pub mod Parts
pub mod Lent
