pub mod RunNarrows
pub mod RunKeys
pub mod RunValues
pub mod RunWriting
pub mod RunsFitting
pub mod Vectors
