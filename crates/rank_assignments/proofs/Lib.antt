pub mod AssignmentRooms
pub mod UprightSums
pub mod SumEnds
pub mod AssignedNarrows
pub mod AssignedFold
pub mod PackedAssignments
pub mod AssignmentSteps
pub mod ReflectionSteps
