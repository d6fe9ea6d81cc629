pub mod Standing
pub mod Refusals
pub mod Parts
pub mod Ports
