pub mod Asking
pub mod Items
pub mod Follows
pub mod State
