pub mod Sides
pub mod Draws
pub mod Subjects
pub mod Places
pub mod DrawRows
pub mod DrawnSums
pub mod LeftDraws
pub mod Meetings
