pub mod All
pub mod Records
