-- What a descent by a key looks for.
use Rattle.std.specs.Prelude.{Bool, not}
use Rattle.std.specs.Ordering.{is_lt, is_eq, is_le}
use Rattle.std.specs.declared.cmp.Ordering.{Ordering}

-- those that have the key or come after it, those that have it, and those that come after it
pub data Which : Type 0 where
  NotBefore : Which
  Same : Which
  After : Which

-- whether a node that stands so to the key is looked for
abbrev pub is_sought : Which → Ordering → Bool
is_sought NotBefore order = not (is_lt order)
is_sought Same order = is_eq order
is_sought After order = not (is_le order)

-- whether a node that stands so to the key comes before all that are looked for
abbrev pub comes_before : Which → Ordering → Bool
comes_before NotBefore order = is_lt order
comes_before Same order = is_lt order
comes_before After order = is_le order
