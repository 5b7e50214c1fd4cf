pub mod Log
pub mod Crash
pub mod Disk
pub mod Logged
pub mod Loading
pub mod Loaded
