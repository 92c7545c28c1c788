pub mod SortWalk
