pub mod Decimals
pub mod Report
pub mod Shift
pub mod ShortLines
pub mod Refusals
pub mod DecimalSteps
