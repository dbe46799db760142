pub mod Umbrella
pub mod PairCounts
pub mod UmbrellaSteps
