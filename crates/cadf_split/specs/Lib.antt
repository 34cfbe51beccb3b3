pub mod Parts
pub mod Places
pub mod Split
pub mod Windows
pub mod laws
