pub mod Ending
pub mod Faulted
pub mod Lines
pub mod Statuses
pub mod Texts
