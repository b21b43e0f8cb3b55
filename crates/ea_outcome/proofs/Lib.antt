pub mod OutcomeGiven
pub mod OutcomeBlocks
pub mod OutcomeLayouts
pub mod OutcomeLines
pub mod OutcomeSums
pub mod OutcomeExtents
