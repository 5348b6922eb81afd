pub mod Feed
pub mod Printed
