pub mod Running
pub mod Runs
pub mod Layouts
pub mod Heard
pub mod Between
