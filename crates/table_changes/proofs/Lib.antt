mod Rows
pub mod Kept
