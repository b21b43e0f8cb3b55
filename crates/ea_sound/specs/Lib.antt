-- A state: what is counted, where it stands and lies, and when it is sound.
pub mod Contents
pub mod Names
pub mod NodePlaces
pub mod Places
pub mod NamePlaces
pub mod Ranges
pub mod Units
pub mod Listed
pub mod Sound
-- Turns, and what entries tell of those before them.
pub mod Turns
pub mod Needs
pub mod Searches
pub mod Fetches
pub mod Abandoned
pub mod Exhausted
pub mod Sought
pub mod FirstFits
pub mod Chosen
pub mod Shown
pub mod HandedOver
pub mod Released
pub mod OnePlace
pub mod Over
pub mod Made
pub mod Entries
pub mod Heap
pub mod Backlog
pub mod Reported
-- Rows: their guards, and answers that never come.
pub mod Guarded
pub mod Grounded
pub mod Heard
-- How many carriers are created.
pub mod FewCreated
-- How an instance's count holds back abandoning.
pub mod Counts
-- That each scheduler ends.
pub mod Progress
-- What holds of each run.
pub mod MachineLaws
-- The rule that each step keeps, and the middle of a step.
pub mod Blocks
pub mod Rule
pub mod Present
pub mod Moments
pub mod Here
pub mod Leaves
-- What the code and threads need beside it.
pub mod Steady
pub mod Standing
pub mod OwnWork
pub mod Releasing
pub mod Walking
