pub mod Answered
pub mod Kept
pub mod Takes
pub mod Steps
pub mod Promise
pub mod Ways
pub mod Examples
