pub mod BlockTests
pub mod BlockNetworks
pub mod BlockSteps
pub mod PreparedSteps
pub mod EvenBlocks
pub mod BlockStages
