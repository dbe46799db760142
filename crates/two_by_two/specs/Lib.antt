pub mod FisherOdds
pub mod OddsNetworks
pub mod OddsSteps
