pub mod SortWalk
pub mod SortRead
