pub mod Views
pub mod Storable
pub mod Named
