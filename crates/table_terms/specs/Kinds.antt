-- The kinds of index that an operation takes.
use Rattle.std.specs.Prelude.{Bool, true, not}
use Rattle.container_model.specs.declared.handle.Kind.{Kind}
use Rattle.container_model.specs.State.{has_key_kind, has_places_kind, is_hashed_kind, is_random_kind, is_ranked_kind, is_sequence_kind, is_sorted_kind}
use Rattle.table_terms.specs.declared.kinds.Kinds.{Kinds}
use Rattle.table_terms.specs.declared.kinds.Kinds.TheVariants as kinds

-- whether a kind is one of them
abbrev pub takes : Kinds → Kind → Bool
takes kinds.All kind = true
takes kinds.Keyed kind = has_key_kind kind
takes kinds.Sorted kind = is_sorted_kind kind
takes kinds.Ranked kind = is_ranked_kind kind
takes kinds.Counted kind = has_places_kind kind
takes kinds.Random kind = is_random_kind kind
takes kinds.Sequence kind = is_sequence_kind kind
takes kinds.Walked kind = not (is_hashed_kind kind)
