pub mod Parts
pub mod Histories
pub mod Counted
pub mod Tellings
pub mod Advances
pub mod Tallies
pub mod Replayed
