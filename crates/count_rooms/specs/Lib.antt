pub mod OneCount
