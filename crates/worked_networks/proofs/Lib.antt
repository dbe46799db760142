pub mod RankLaws
pub mod RankRooms
pub mod SignLaws
pub mod BlockLaws
pub mod LabelRankLaws
pub mod DrawLaws
