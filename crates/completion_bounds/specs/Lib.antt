pub mod Boxes
pub mod Fillings
pub mod Pairings
pub mod PairingSteps
