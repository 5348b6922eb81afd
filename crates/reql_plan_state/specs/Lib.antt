pub mod Rest
pub mod Turn
