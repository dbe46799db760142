pub mod KruskalWallis
pub mod RankSums
pub mod CentredSums
pub mod RankSumSteps
pub mod SumMeanings
pub mod SquaredStages
