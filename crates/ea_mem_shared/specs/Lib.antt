pub mod Counted
pub mod Memory
pub mod Places
