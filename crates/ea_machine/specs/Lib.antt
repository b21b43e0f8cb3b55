-- What there is: of a run, of what schedulers share, and of one of them.
pub mod Setup
pub mod Owners
pub mod Words
pub mod Nodes
pub mod Alike
pub mod Shared
pub mod Lists
pub mod Actor
pub mod State
-- The atomic steps.
pub mod Rows
pub mod Table
pub mod Guards
-- What a scheduler does between two of them.
pub mod Walks
pub mod Operations
pub mod Searches
pub mod Placements
pub mod Reallocations
pub mod Releases
pub mod Tasks
pub mod Statistics
-- Runs, and what is printed of them.
pub mod Machine
pub mod Stops
pub mod Completion
pub mod Courses
pub mod Outcome
pub mod Sums
