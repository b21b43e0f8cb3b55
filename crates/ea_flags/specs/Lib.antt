pub mod Words
pub mod Values
pub mod Ranges
pub mod Configs
pub mod Flags
pub mod Refusals
