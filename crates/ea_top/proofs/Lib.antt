pub mod Asking
pub mod Running
pub mod Texts
pub mod Valid
