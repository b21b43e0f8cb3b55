pub mod Calls
pub mod Counts
pub mod Fronts
pub mod Standard
pub mod Messages
