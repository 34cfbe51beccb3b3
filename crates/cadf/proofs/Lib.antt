pub mod Accepted
pub mod Common
pub mod Opening
pub mod Words
