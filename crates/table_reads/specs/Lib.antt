pub mod Found
pub mod Reads
pub mod Searches
pub mod Positions
pub mod Ranges
pub mod Shown
pub mod Read
