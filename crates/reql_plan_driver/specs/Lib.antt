pub mod Meeting
pub mod Walking
