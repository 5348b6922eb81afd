pub mod Documents
pub mod Ready
pub mod Commands
