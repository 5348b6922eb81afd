pub mod Treated
pub mod Treating
pub mod Selecting
pub mod Write
pub mod Laws
pub mod Worked
