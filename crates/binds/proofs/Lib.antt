pub mod ListHead
pub mod PredNames
pub mod PredPlans
pub mod PredLoop
pub mod BindOf
