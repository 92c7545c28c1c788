pub mod ParamNames
pub mod SolutionBody
pub mod SolutionParts
