pub mod Cutting
pub mod Products
pub mod ByRows
pub mod Orders
mod Vectors
