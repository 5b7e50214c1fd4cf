pub mod Fault
pub mod Request
