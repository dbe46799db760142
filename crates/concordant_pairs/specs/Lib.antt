pub mod ConcordantPairs
pub mod ConcordantTails
pub mod ConcordantSteps
