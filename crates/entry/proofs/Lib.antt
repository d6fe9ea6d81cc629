pub mod Backs
pub mod Laws
