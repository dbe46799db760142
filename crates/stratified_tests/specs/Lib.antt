pub mod StrataTests
pub mod StrataNetwork
pub mod StrataSteps
