pub mod StepLists
pub mod Quiet
pub mod LookSteps
pub mod Takings
pub mod Fronting
pub mod Prefixed
pub mod Rising
-- Which blocks a step can take away.
pub mod SortedItems
pub mod FoundBlocks
pub mod WorkedNames
pub mod TouchedNames
pub mod TouchedBlocks
pub mod ReleasedBlocks
pub mod ByName
pub mod Releasing
-- Which carriers come, go and shrink by a step.
pub mod CarrierWeights
pub mod KeptCarriers
pub mod MadeCarriers
pub mod StepCarriers
pub mod CarrierSums
pub mod GoneCarriers
pub mod ChangedCarriers
pub mod KnownBirths
pub mod ShownCarriers
pub mod SteppedCarriers
pub mod ToldCarriers
pub mod ShrunkCarriers
pub mod ByNumber
pub mod TellingCarriers
pub mod MadeNumbers
-- What is noted of a step before it.
pub mod NotedNames
-- What is told of it, and of a whole run.
pub mod ToldChanges
pub mod Printing
pub mod Showing
pub mod Tellings
pub mod ToldLines
pub mod ToldRuns
pub mod Traces
