pub mod File
pub mod Same
