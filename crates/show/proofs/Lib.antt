pub mod Stores
pub mod Printing
pub mod Params
pub mod Judged
pub mod Showing
pub mod Going
