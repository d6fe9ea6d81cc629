-- What callers may cite: `Named` and `Stored`.
mod Backs
pub mod Chosen
pub mod Named
pub mod Stored
