mod Elements
mod Firsts
mod Keys
pub mod Saying
pub mod Turns
