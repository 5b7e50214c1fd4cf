pub mod Facts
pub mod Keys
pub mod Placed
pub mod Readings
pub mod Validity
pub mod Defined
pub mod KindTexts
