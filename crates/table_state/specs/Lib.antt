pub mod State
pub mod Writing
pub mod Reading
pub mod Standing
pub mod Staying
pub mod Parts
