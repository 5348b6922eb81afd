pub mod Records
pub mod Reading
pub mod Standing
pub mod Laws
