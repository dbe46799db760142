pub mod RoomKeys
pub mod RoomLaws
pub mod RoomEnds
pub mod RoomFollows
pub mod NetworkParts
pub mod Raising
pub mod NumberLaws
pub mod Vectors
