pub mod Opening
pub mod Commands
pub mod Engines
pub mod Faults
pub mod Leading
pub mod Safe
