pub mod Transposed
pub mod TransposedLaws
