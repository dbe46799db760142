pub mod ChoiceLines
pub mod FrontSteps
pub mod GatheredChoices
pub mod SortedRooms
pub mod SortedSteps
