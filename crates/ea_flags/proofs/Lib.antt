mod Ranges
mod InRange
mod Valid
mod Pairs
