pub mod Begun
pub mod Ends
pub mod Founds
pub mod Lasting
pub mod Logs
pub mod Moments
pub mod Opening
pub mod Over
pub mod Pieces
pub mod Recovers
pub mod Sure
pub mod Synced
mod Slots
