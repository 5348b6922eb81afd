pub mod Worked
pub mod Lists
pub mod Stable
pub mod Keys
pub mod Ordered
pub mod Distinct
pub mod Groups
