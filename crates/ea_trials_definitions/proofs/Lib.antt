mod Exhausted
mod Placed
mod Handed
mod Searched
mod Setups
mod Fetching
mod Parts
