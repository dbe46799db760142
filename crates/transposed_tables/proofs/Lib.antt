pub mod TransposedLines
pub mod Shapes
pub mod Bijection
pub mod Weighed
pub mod Reduced
