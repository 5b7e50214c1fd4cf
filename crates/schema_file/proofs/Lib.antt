pub mod Documents
pub mod Trees
