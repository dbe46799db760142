mod OddsLaws
mod OddsTests
mod Vectors
