pub mod StrataSums
pub mod StrataReads
pub mod FirstCells
pub mod CellLaws
