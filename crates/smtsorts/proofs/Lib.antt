pub mod SortNodes
