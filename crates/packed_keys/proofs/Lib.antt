pub mod DigitLists
pub mod Widths
pub mod PackedParts
pub mod AddedDigits
pub mod GroupParts
