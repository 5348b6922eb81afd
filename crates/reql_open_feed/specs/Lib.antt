pub mod First
pub mod Open
pub mod Stays
pub mod Alone
