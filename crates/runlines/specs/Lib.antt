pub mod Runs
pub mod Routines
pub mod Traces
pub mod Replays
