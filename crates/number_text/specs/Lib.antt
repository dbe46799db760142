pub mod CountTexts
pub mod ListTexts
pub mod NumberTexts
pub mod Numerals
pub mod NumeralTexts
pub mod Significands
pub mod Trimmed
