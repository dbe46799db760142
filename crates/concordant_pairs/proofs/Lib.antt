mod FirstConcordant
mod TwoGroups
mod OneMoreGroup
mod Counting
mod Passing
pub mod OneEach
