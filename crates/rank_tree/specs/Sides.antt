-- How a member of a list stands to a place by a key.
use Rattle.std.specs.Prelude.{Bool, cond}
use Rattle.std.specs.Ordering.{is_lt, is_le}
use Rattle.std.specs.declared.cmp.Ordering.{Ordering}

-- whether a member that stands so to the key comes before the place: that after the key's members, or before them
abbrev pub comes_first : Bool → Ordering → Bool
comes_first after_equals order = cond after_equals (is_le order) (is_lt order)
