pub mod Catalog
pub mod Machine
pub mod Bounds
pub mod Worked
pub mod Agreeing
