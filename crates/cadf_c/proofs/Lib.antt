pub mod Common
pub mod Names
pub mod Statuses
