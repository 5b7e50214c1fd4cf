pub mod Allowed
pub mod Answered
pub mod Moved
pub mod Restored
pub mod Steps
pub mod Undone
