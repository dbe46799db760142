pub mod PlaceScores
pub mod RawScores
pub mod Scores
pub mod PlaceSteps
pub mod ScoreSteps
