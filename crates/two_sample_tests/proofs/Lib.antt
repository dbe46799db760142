mod SameTests
mod FittingTests
mod Vectors
mod EvenSums
mod DrawnSamples
