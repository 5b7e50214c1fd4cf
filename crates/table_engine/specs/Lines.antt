-- Lines of a stream.
use Rattle.std.specs.Prelude.{ℕ, List, [], ◌∷◌, ◌++◌, length, Bool, true, false, not, ◌&&◌, ◌||◌, ◌==◌, nat_lt, if◌then◌else◌}
use Rattle.table_engine.specs.declared.cutter.Cut.{Cut}
use Rattle.table_engine.specs.declared.cutter.Cut.TheVariants.{Unended, Blank, Long, Line}

-- the longest line, without its newline
abbrev pub max_line : ℕ
max_line = 65536

-- the bytes of a line so far, or that they are too many
pub data Unfinished : Type 0 where
  short : List ℕ → Unfinished
  long : Unfinished

-- what a clause sees of a `LineCutter`: the line so far, and the last line that was completed
pub record Cutter : Type 0 where
  pub unfinished : Unfinished
  pub line : List ℕ

-- a line with one more byte
abbrev pub add : ℕ → Unfinished → Unfinished
add b (short line) = if nat_lt (length line) max_line then short (line ++ b ∷ []) else long
add b long = long

-- a line with more bytes
abbrev pub added : List ℕ → Unfinished → Unfinished
added [] line = line
added (b ∷ bs) line = added bs (add b line)

-- whether a line has no byte
abbrev pub is_empty : Unfinished → Bool
is_empty (short []) = true
is_empty (short (b ∷ bs)) = false
is_empty long = false

-- space, tab, carriage return
abbrev pub is_space : ℕ → Bool
is_space b = b == 32 || (b == 9 || b == 13)

-- whether a line holds nothing else
abbrev pub is_blank : List ℕ → Bool
is_blank [] = true
is_blank (b ∷ bs) = is_space b && is_blank bs

-- what kind of line this is
abbrev pub cut_of : Unfinished → Cut
cut_of (short line) = if is_blank line then Blank else Line
cut_of long = Long

-- the same at the end of a stream, where nothing is no line
abbrev pub cut_at_end : Unfinished → Cut
cut_at_end (short []) = Unended
cut_at_end (short (b ∷ bs)) = cut_of (short (b ∷ bs))
cut_at_end long = Long

-- whether a line has an answer, if it ends here
abbrev pub has_answer : Unfinished → Bool
has_answer (short line) = not (is_blank line)
has_answer long = true
