pub mod Runs
pub mod RunNetwork
pub mod RunSteps
