pub mod Distinct
pub mod Numbers
pub mod Rows
pub mod Sets
