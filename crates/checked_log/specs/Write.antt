-- What is appended to a text.
use Rattle.std.specs.Prelude.{ℕ, List, [], ◌∷◌, ◌++◌}
use Rattle.std.specs.Borrow.{Bor}
use Rattle.std.specs.List.{flat_map}
use Rattle.checked_log.specs.Line.{Entry, line_text}

-- pieces, one behind another
abbrev pub together : List (Bor (List ℕ)) → List ℕ
together pieces = flat_map (λ piece. piece.now) pieces

-- a line with its newline
abbrev pub whole_line : Entry → List ℕ
whole_line e = line_text e ++ (10 ∷ [])
