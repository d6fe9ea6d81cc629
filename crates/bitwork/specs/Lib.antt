pub mod Bitwork
pub mod MirrorBitwork
