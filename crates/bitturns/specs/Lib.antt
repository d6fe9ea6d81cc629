pub mod MirrorBitturns
