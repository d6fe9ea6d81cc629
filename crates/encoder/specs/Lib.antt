pub mod Names
pub mod MirrorValid
pub mod MirrorParts
pub mod MirrorWrite
