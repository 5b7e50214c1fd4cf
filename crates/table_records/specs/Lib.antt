pub mod Headings
pub mod Fits
pub mod Changes
pub mod Reindexed
pub mod Restored
