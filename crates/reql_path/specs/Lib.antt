pub mod Building
pub mod Normal
pub mod Named
