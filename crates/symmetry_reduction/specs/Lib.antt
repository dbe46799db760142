pub mod OrderedGroups
pub mod GroupSums
pub mod ReducedNetworks
pub mod OrderSteps
