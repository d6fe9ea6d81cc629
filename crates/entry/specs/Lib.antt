pub mod Names
pub mod Entry
