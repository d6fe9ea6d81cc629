pub mod Listing
pub mod MirrorGlance
