pub mod MarginSums
pub mod Observed
pub mod ProductLimits
pub mod ColumnSums
mod Vectors
