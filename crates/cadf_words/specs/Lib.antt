pub mod Synopsis
pub mod Table
