pub mod Stands
pub mod Told
pub mod Steps
pub mod Adding
pub mod Among
pub mod Digits
pub mod Two
pub mod Building
