pub mod Op
pub mod Spelling
pub mod Parts
pub mod Meaning
pub mod Fits
pub mod Tree
