pub mod Ties
pub mod Midranks
pub mod MidrankSteps
