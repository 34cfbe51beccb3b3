pub mod Common
pub mod Entered
pub mod Found
pub mod Getters
pub mod Rows
