-- The words of a record's declaration: its fields, and its indices.
pub use Rattle.field_keys.specs.Row.{absent, unsigned, signed, text, truth, if_some}
pub use Rattle.indexed.specs.Kinds.{sequenced, random, ordered, unique_ordered, ranked, unique_ranked, hashed, unique_hashed}
