pub mod Generated
pub mod Places
pub mod Makers
