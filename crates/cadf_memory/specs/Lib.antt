pub mod Memory
pub mod Made
pub mod Handed
pub mod Buffers
