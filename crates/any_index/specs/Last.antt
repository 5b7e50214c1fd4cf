-- The last node of those that pass a test, as an index speaks of it.
pub use Rattle.ord_tree.specs.Last.{last_that}
