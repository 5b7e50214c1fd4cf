-- What a table's log begins behind.
use Rattle.std.specs.Prelude.{ℕ, cond, true, false, Option, Some, None}
use Rattle.checked_log.specs.declared.recovery.Link.{Link}
use Rattle.table_folder.specs.declared.base.Base.{Base}

-- the empty table, whose log begins with the digest of the declaration
abbrev pub of_empty : ℕ → Base
of_empty declared = record { is_state = false; link = record { number = 0; digest = declared }; declared = declared }

-- the state of a last write
abbrev pub at_state : ℕ → Link → Base
at_state declared link = record { is_state = true; link = link; declared = declared }

-- the number of the state, where there is one
abbrev pub state_in : Base → Option ℕ
state_in base = cond base.is_state (Some base.link.number) None
