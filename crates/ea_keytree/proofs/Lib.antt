pub mod Standing
pub mod Changes
pub mod Putting
pub mod Raising
pub mod Taking
pub mod Searching
pub mod Greatest
pub mod Holding
