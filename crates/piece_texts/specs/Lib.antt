pub mod RunNames
pub mod PieceTexts
pub mod ReadPieces
pub mod Places
pub mod Merges
pub mod FieldSteps
pub mod ReaderSteps
pub mod TotalSteps
