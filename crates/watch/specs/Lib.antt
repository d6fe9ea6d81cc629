pub mod Watch
pub mod Honest
