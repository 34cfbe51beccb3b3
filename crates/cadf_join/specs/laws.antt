-- Laws that definitions and ghost members cite.
pub mod Rising
pub mod Sets
pub mod Contents
pub mod Maps
pub mod Chains
