-- What callers may cite: `Laws`. The others lead to it.
mod Shape
mod Complete
mod Good
mod Sound
mod Planned
pub mod Laws
