pub mod Owned
pub mod WalkLaws
