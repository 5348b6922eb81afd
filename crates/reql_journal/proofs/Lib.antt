mod Likes
mod Changes
mod Recovering
mod Reading
mod Leading
mod Running
mod Answering
