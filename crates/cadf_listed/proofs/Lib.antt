pub mod Common
pub mod ListLemmas
pub mod MarkedNames
pub mod NameLines
pub mod Searching
