pub mod Resting
pub mod Finding
pub mod Layouts
pub mod Extents
