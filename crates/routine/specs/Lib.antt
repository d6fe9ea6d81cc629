pub mod Routine
pub mod Repeated
pub mod MirrorTurn
