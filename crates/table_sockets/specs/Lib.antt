pub mod Accepting
pub mod End
pub mod Serving
