mod LayoutVectors
mod Limits
pub mod Places
pub mod WholeStrata
pub mod WholeTable
