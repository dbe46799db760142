pub mod TieLemmas
pub mod OneGrouping
pub mod Places
mod Runs
mod Vectors
