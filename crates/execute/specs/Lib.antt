pub mod MirrorExecute
