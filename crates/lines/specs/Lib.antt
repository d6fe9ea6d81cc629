pub mod Figures
pub mod Places
pub mod Ports
pub mod Calls
