pub mod Firsts
pub mod Maxima
