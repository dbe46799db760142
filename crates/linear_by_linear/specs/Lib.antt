pub mod LinearByLinear
pub mod LinearNetworks
pub mod LinearSteps
