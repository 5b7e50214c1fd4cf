pub mod Keeper
pub mod Asked
