pub mod FirstColumn
pub mod OneToss
pub mod TwoSigns
