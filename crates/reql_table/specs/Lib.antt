pub mod Keys
pub mod Seen
pub mod Inside
pub mod Edits
pub mod Trees
