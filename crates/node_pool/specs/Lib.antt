pub mod Nodes
pub mod Pool
pub mod HashSteps
pub mod TableSteps
pub mod PoolSteps
