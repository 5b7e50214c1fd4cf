pub mod Places
pub mod Shifted
pub mod Edits
pub mod Laws
pub mod Closing
pub mod Lowest
