pub mod Values
pub mod Kinds
pub mod Table
pub mod Step
pub mod Words
pub mod Edits
pub mod Bounds
pub mod Telling
