pub mod Script
pub mod Words
