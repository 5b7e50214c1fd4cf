pub mod Standing
pub mod Found
pub mod Hears
pub mod Ends
