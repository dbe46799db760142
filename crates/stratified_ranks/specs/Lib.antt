pub mod StratifiedRanks
pub mod RankRooms
pub mod RankNetworks
pub mod RankSteps
pub mod StrataSteps
pub mod RankMade
