pub mod Answers
pub mod Statuses
pub mod Words
pub mod Printing
pub mod Requests
pub mod Tallies
pub mod Line
