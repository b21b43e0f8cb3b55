pub mod NamesTable
pub mod GroupedNames
