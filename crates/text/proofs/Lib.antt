pub mod Adding
pub mod Figures
pub mod Room
