pub mod Contents
pub mod ContentsInputs
pub mod Histograms
pub mod Recorded
pub mod Segments
pub mod Types
