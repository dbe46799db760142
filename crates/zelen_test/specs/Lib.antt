pub mod Zelen
pub mod ZelenNetwork
pub mod SumSteps
pub mod ZelenSteps
pub mod ZelenMade
