pub mod Spelled
pub mod Last
pub mod Lists
pub mod Side
pub mod Keyed
pub mod Stored
pub mod Marks
pub mod At
