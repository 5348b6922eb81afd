pub mod Past
pub mod Tallied
pub mod Views
