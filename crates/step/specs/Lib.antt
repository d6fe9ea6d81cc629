pub mod Follow
pub mod Step
pub mod Processor
