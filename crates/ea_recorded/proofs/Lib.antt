pub mod Feeding
pub mod Reached
pub mod Operating
pub mod Printing
pub mod Ruling
