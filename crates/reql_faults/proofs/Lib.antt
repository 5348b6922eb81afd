pub mod Below
pub mod Firsts
pub mod Worked
