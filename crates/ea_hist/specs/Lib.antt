pub mod Intervals
pub mod Language
pub mod Text
