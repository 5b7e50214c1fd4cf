pub mod Digests
pub mod Fields
