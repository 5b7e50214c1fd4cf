pub mod Cells
pub mod Glued
pub mod Printed
pub mod Room
pub mod Short
mod Rows
