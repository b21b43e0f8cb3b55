pub mod Held
pub mod Keyed
pub mod Places
