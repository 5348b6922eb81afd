pub mod Literal
pub mod Reading
pub mod Showing
pub mod Inverse
