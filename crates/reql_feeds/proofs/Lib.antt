mod Rising
mod Places
mod Plans
mod Queues
mod Pushes
mod Turned
mod Halves
mod Drafts
mod Blanks
mod Hearings
mod Landings
mod Commits
mod Machine
pub mod Apart
mod Answered
mod Takes
mod Takings
mod Served
mod Sizes
mod Whole
mod Tells
pub mod Sends
