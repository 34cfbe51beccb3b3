pub mod Keys
pub mod laws
