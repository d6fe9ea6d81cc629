pub mod Parts
pub mod Names
pub mod Operands
pub mod Instructions
