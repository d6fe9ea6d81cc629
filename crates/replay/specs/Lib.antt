pub mod Replay
pub mod Followed
pub mod Cuts
pub mod MirrorReplay
