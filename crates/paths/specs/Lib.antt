pub mod Paths
pub mod Runs
pub mod Levels
pub mod MirrorRows
pub mod MirrorPacked
