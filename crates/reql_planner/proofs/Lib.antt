mod Bodies
mod Groups
mod Items
mod Onward
mod Stating
pub mod Sends
