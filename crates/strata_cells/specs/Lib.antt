pub mod Strata
pub mod StrataLimits
