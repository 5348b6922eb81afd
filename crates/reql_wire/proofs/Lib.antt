pub mod Fronts
pub mod Greetings
