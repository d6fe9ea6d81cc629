pub mod Left
pub mod Unheld
pub mod MirrorTable
