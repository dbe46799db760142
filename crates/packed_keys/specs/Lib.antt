pub mod PackedKeys
pub mod PackedSteps
pub mod PackedGroups
