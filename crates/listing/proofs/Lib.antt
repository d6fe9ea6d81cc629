pub mod Part
pub mod Counted
pub mod Words
pub mod Listed
pub mod Numbered
