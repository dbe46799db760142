pub mod Answers
pub mod Faults
pub mod Layouts
pub mod Pieces
pub mod Records
