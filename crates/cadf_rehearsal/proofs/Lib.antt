pub mod Common
pub mod Played
pub mod Schedule
pub mod Seen
pub mod Turns
