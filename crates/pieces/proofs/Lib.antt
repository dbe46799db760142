mod Conserving
mod ByPaths
mod Arriving
mod Owned
mod Placed
pub mod CutSums
pub mod WrittenPieces
mod FoundKeys
mod CountedCuts
mod Finding
pub mod WholeRuns
