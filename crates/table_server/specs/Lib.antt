pub mod Asking
pub mod Done
pub mod Fault
pub mod Keeping
pub mod Making
pub mod Place
pub mod Serving
