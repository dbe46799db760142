mod OddsLaws
mod Multiples
mod StrataLaws
mod FittingStrata
mod Loops
mod Vectors
