mod Counting
mod Headed
mod Spaced
