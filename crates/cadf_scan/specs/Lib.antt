pub mod Instants
pub mod Scan
