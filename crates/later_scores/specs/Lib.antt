pub mod LaterSums
pub mod LaterTables
pub mod LaterSteps
