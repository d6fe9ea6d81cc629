pub mod Least
pub mod Named
mod Table
