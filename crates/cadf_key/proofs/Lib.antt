pub mod CollectedKeys
pub mod Common
