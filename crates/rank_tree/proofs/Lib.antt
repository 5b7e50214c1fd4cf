pub mod Counted
pub mod Descents
pub mod Climbs
pub mod Sides
pub mod KeyRanks
pub mod Whole
