pub mod Carriers
pub mod Ranks
