pub mod MultipleLemmas
pub mod Positive
pub mod LabelledSums
mod AverageLemmas
mod PlaceSums
pub mod RawLemmas
mod Answering
mod Vectors
