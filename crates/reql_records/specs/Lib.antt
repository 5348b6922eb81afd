pub mod Bodies
pub mod Books
pub mod Safe
