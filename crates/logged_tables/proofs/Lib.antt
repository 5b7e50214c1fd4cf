pub mod Hears
pub mod Ends
pub mod Marks
pub mod Orders
pub mod Calls
