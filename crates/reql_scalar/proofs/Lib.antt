pub mod Told
mod Firsts
mod Takes
mod Among
mod Written
mod Two
mod Texts
mod Gathered
