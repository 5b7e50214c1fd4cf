pub mod Fields
pub mod Indices
pub mod Row
pub mod Sought
pub mod Values
pub use Rattle.key_extract.specs.Hashes
pub use Rattle.key_extract.specs.Keys
pub use Rattle.key_extract.specs.Texts
