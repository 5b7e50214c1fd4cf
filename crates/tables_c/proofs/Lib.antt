pub mod Boxed
pub mod Values
pub mod RowValues
pub mod Spelled
pub mod Holding
pub mod Batches
