pub mod Runs
pub mod ChainLists
pub mod Walks
pub mod Moves
pub mod Turns
pub mod Rearranging
pub mod Laws
