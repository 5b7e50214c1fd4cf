pub mod Declaration
pub mod Kinds
pub mod Orders
pub mod Viewed
pub use Rattle.field_keys.specs.Row
