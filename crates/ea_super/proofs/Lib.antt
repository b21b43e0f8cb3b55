pub mod Reading
pub mod Books
