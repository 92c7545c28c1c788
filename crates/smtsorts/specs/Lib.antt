pub mod SortNode
