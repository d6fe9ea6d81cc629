-- What callers may cite: `Laws`.
mod Fields
mod Rendered
mod Stored
pub mod Laws
