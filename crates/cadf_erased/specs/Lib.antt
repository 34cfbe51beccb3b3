pub mod Left
pub mod laws
