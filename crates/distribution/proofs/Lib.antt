pub mod Products
pub mod Summing
pub mod TailLaw
pub mod Vectors
