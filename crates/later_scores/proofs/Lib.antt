pub mod Absolute
pub mod LaterArcs
mod TakenScores
mod Columns
pub mod Later
pub mod Stages
mod Building
mod Lookups
