pub mod Better
pub mod Searches
pub mod Choices
pub mod Laid
pub mod Counted
pub mod Binned
pub mod Listed
