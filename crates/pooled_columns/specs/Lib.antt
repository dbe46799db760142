pub mod PooledColumns
pub mod ScoredGroups
