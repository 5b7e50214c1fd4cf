pub mod Keys
pub mod Kinds
pub mod Every
pub mod Tens
pub mod Lone
pub mod Pairs
pub mod Linked
