pub mod ReadHead
