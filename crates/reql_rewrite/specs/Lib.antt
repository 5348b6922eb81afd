pub mod Rewrite
pub mod Laws
pub mod Same
