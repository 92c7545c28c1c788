pub mod ReadExpr
