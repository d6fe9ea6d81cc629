pub mod Addresses
pub mod Calls
pub mod Turns
pub mod Loop
pub mod Repeats
