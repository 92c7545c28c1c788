pub mod ByCount
