pub mod Uncurry
pub mod Bound
pub mod FlatCoded
pub mod SolutionBack
pub mod FlatKinds
pub mod Raise
pub mod Cases
pub mod FewOperands
