pub mod Asked
pub mod Ended
pub mod Opened
pub mod Output
pub mod Run
