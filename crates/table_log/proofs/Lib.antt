pub mod Splits
pub mod Lines
pub mod Replays
pub mod Feeding
