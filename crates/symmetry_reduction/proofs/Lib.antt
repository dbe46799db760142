pub mod GroupSums
pub mod PlaceOrder
pub mod PlaceWriting
pub mod PlaceCodes
pub mod EvenOrder
pub mod ReducedKeys
pub mod ReducedParts
