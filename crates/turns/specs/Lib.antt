pub mod MirrorTurn
