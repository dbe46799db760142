mod MarkSums
mod MarkNetwork
mod FittingSamples
mod MarksLeft
mod Vectors
