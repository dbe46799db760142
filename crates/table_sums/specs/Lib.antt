pub mod Tables
pub mod TableSteps
