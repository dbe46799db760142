pub mod SignedSamples
pub mod SignNetwork
pub mod SampleSteps
