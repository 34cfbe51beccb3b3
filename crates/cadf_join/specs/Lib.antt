pub mod Contents
pub mod Longest
pub mod Maps
pub mod Prefixes
pub mod Sets
pub mod MultiValued
pub mod laws
