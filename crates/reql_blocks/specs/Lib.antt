pub mod Format
pub mod Held
pub mod Recovery
pub mod Faults
pub mod Beginning
pub mod Laws
