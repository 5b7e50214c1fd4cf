pub mod Compact
pub mod Sound
pub mod Back
pub mod Plain
pub mod Law
mod Rows
