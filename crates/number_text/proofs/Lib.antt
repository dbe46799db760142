pub mod DecimalValues
pub mod FirstMarks
pub mod ListItems
pub mod Scaling
mod Vectors
