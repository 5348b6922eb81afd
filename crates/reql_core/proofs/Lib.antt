mod Doing
mod Commands
mod Keeping
mod Batches
mod Subscribed
mod Numbers
mod Indexed
mod Changes
mod Untold
mod Written
mod Fulls
mod Runs
mod Tails
mod Answering
pub mod Sends
