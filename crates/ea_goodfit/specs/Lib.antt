pub mod Gaps
pub mod Keys
