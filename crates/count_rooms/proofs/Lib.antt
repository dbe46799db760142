pub mod NaturalMeasures
pub mod WaySums
pub mod OneCounts
