pub mod Places
pub mod Shapes
pub mod Faults
pub mod Finds
pub mod Texts
pub mod Worked
