pub mod Sources
pub mod Same
pub mod Altered
pub mod Scaffold
