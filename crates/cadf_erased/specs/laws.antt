-- Laws that ghost members cite.
pub mod Places
