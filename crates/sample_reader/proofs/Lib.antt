mod Appearances
mod BinaryBlocks
mod LabelSets
mod LayoutVectors
mod OrderLemmas
pub mod PooledLemmas
pub mod Rearranged
mod Sizes
mod SubjectLemmas
mod WholeBlocks
mod WholeGroups
mod WholePairs
mod WholeSequence
mod WholeStrata
mod WholeTwins
