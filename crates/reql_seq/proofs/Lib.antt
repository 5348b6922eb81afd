pub mod Sorts
mod Cuts
mod Summing
