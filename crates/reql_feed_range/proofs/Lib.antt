pub mod OneDocument
pub mod Changes
pub mod Documents
pub mod Pairing
pub mod Feeds
pub mod Sends
