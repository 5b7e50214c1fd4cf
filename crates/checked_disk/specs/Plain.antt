-- The plain lines of a log: its writes, each with a newline.
use Rattle.std.specs.Prelude.{ℕ, cond, List, [], ◌∷◌, ◌++◌, Option, option_map}
use Rattle.std.specs.List.{flat_map}
use Rattle.checked_log.specs.Line.{Entry}
use Rattle.checked_log.specs.Whole.{ended, whole}
use Rattle.checked_log.specs.declared.recovery.Link.{Link}
use Rattle.checked_log.specs.declared.walk.Walk.{Walk}

-- the plain lines of these entries
abbrev pub plain_lines : List Entry → List ℕ
plain_lines es = flat_map (λ e. e.write ++ (10 ∷ [])) es

-- the plain lines of the whole log of these bytes
abbrev pub plain_text : Link → List ℕ → List ℕ
plain_text base bytes = plain_lines (whole base (ended bytes))

-- the same, where the bytes are known
abbrev pub plain_contents : Link → Option (List ℕ) → Option (List ℕ)
plain_contents base bytes = option_map (plain_text base) bytes

-- the plain lines that a walk finds whole in further lines
abbrev pub found_from : Walk → List (List ℕ) → List ℕ
found_from w lines = cond w.is_whole (plain_lines (whole w.so_far.last lines)) []
