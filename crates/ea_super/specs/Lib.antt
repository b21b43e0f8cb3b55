pub mod Lines
pub mod Language
pub mod Asked
pub mod Knows
pub mod Reading
pub mod Text
pub mod Command
