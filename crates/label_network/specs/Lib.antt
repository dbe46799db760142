pub mod Meanings
pub mod ChoiceOrder
pub mod LabelRooms
pub mod LabelNetwork
pub mod Measures
pub mod Linear
pub mod LabelSteps
pub mod LinearSteps
