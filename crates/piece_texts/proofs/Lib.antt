pub mod FirstPlaces
pub mod SumsGrow
pub mod EachPart
pub mod FieldsRead
pub mod FreeLines
pub mod LineRuns
pub mod LinesLead
pub mod TextsGrow
pub mod PieceRuns
pub mod FaultLines
mod Vectors
