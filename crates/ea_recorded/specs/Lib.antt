pub mod Language
pub mod Input
pub mod Told
pub mod Reading
pub mod Order
pub mod Running
pub mod Output
pub mod Command
