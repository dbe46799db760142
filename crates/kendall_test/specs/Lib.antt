pub mod Kendall
pub mod CountCodes
pub mod KendallRooms
pub mod KendallNetwork
pub mod TransposedKendall
pub mod KendallSteps
pub mod KendallMade
