pub mod Subtrees
pub mod Sides
