pub mod SortFields
