pub mod Upright
pub mod BoundSteps
pub mod Assignments
pub mod Reflections
