pub mod Slots
pub mod Noted
