pub mod CodeLaws
pub mod Arranged
pub mod KendallPlans
pub mod Held
pub mod KendallNarrows
pub mod CountedPairs
pub mod KendallValues
pub mod PairLoops
pub mod KendallSeats
pub mod PairSums
pub mod Places
pub mod KendallFitting
pub mod ConcordantOrder
mod TableSums
mod TransposedSums
mod TransposedObserved
mod TransposedRatios
mod Vectors
