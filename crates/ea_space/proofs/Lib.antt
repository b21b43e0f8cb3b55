pub mod Highest
pub mod Indices
