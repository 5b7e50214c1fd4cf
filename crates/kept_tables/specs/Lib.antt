pub mod Fault
pub mod Lines
pub mod Opened
pub mod Syncs
pub mod Types
