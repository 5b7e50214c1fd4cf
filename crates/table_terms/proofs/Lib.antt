pub mod Declared
pub mod Keyed
pub mod Rows
pub mod Steps
pub mod Sums
