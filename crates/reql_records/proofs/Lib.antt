pub mod Flushing
mod Applying
mod Promise
