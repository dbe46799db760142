pub mod Differences
pub mod LaterPairs
pub mod Limits
pub mod LimitSteps
