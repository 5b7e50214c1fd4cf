pub mod Changes
pub mod Moves
pub mod Modify
pub mod Indices
pub mod Change
pub mod Changed
