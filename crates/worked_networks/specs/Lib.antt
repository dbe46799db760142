pub mod SampleRanks
pub mod SignedRanks
pub mod Blocks
pub mod LabelRanks
pub mod Draws
