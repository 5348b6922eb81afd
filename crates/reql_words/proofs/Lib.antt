pub mod Going
pub mod Numerals
