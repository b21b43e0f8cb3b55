pub mod Own
pub mod Kept
pub mod Answers
pub mod Hands
pub mod Layouts
