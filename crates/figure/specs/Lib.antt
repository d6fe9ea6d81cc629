pub mod Answer
pub mod MirrorFigure
pub mod Longest
pub mod Bound
