pub mod Names
pub mod MirrorWords
pub mod MirrorDecode
