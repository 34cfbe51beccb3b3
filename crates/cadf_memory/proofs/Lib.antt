pub mod Common
pub mod Framed
pub mod Outcomes
pub mod Stored
pub mod Walks
