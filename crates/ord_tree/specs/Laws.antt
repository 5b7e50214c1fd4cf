-- What a total order owes the searches by one of its members.
pub use Rattle.key_extract.specs.Laws.{cuts_at}
