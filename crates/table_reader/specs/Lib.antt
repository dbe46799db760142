pub mod Counts
pub mod Data
pub mod Kept
pub mod StrataLayout
pub mod TableLayout
