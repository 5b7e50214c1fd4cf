pub mod Bounded
pub mod Shown
pub mod Told
