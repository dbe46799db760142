pub mod Products
pub mod Rearranged
pub mod Runs
pub mod Ascending
pub mod Bounding
pub mod Factorials
pub mod FallingSizes
pub mod TableWeights
pub mod Capped
pub mod Narrowing
mod Vectors
