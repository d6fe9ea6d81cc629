pub mod Bytes
pub mod Records
pub mod Passes
pub mod Follows
pub mod Cut
