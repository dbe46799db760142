pub mod Question
pub mod Questions
pub mod Outcome
pub mod Texts
pub mod Promises
pub mod Divided
pub mod MergedRuns
pub mod CauseSteps
