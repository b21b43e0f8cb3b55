pub mod Answers
pub mod EachTrace
pub mod Language
pub mod Output
