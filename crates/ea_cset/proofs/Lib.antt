pub mod First
pub mod Rising
pub mod Searched
pub mod Ranked
pub mod Orders
pub mod Firsts
pub mod Lasts
