pub mod Keyed
pub mod StoreLemmas
pub mod NodeLists
pub mod ByNode
pub mod Members
pub mod Age
pub mod Ages
mod Found
mod Chain
mod Seen
mod ChainAge
mod Written
mod Fields
mod Neighbours
mod Coming
mod Leaving
mod Reached
mod Memory
mod Apart
mod Starts
mod Crossing
mod Values
