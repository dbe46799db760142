pub mod RowProducts
pub mod Factorials
