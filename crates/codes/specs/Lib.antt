pub mod Names
pub mod Code
pub mod Valid
pub mod States
pub mod Cycles
pub mod Exact
pub mod Choices
