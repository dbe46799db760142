pub mod Runs
pub mod RunSteps
