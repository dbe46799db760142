pub mod Conditions
pub mod FirstBytes
pub mod FirstColumns
pub mod OneTossLaws
