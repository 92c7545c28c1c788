pub mod Said
pub mod Refusals
pub mod JudgeRefusals
pub mod FlattenRefusals
pub mod SmtlibRefusals
pub mod Roomy
pub mod Literals
