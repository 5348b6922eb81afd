pub mod Dialed
