pub mod MirrorTransfer
