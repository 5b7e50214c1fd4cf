pub mod Ordered
pub mod Alone
pub mod Framing
pub mod ByTens
pub mod Arrived
pub mod Told
