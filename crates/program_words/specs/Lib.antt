pub mod Program
pub mod Address
pub mod Asked
