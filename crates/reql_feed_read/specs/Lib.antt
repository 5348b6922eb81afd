pub mod Scopes
pub mod Shapes
pub mod Order
pub mod Asked
pub mod Source
pub mod Seen
pub mod Follows
