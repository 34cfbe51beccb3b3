pub mod ListFile
pub mod ListVerdict
