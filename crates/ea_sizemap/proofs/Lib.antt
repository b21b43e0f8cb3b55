pub mod Keying
pub mod Choosing
pub mod Placing
pub mod Changing
