pub mod Declared
pub mod Reindexed
pub mod Sorting
