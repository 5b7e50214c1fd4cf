pub mod Inserts
pub mod Csv
pub mod Header
