pub mod TwoSamples
pub mod Columns
pub mod SampleSteps
pub mod EvenSteps
