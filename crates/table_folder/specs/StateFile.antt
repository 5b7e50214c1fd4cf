-- The file of a state.
use Rattle.std.specs.Prelude.{ℕ, ◌-◌, ◌^◌, List, [], ◌++◌, codes, false}
use Rattle.std.specs.Fmt.{digits, format_spec, padded_integral}
use Rattle.checked_log.specs.Digest.{digest}
use Rattle.table_state.specs.State.{state_text}
use Rattle.table_terms.specs.Table.{TableState}

-- the 16 digits of a number of 64 bits
abbrev pub hex16 : ℕ → List ℕ
hex16 n = padded_integral (format_spec 32 0 4 16 (2 ^ 64 - 1)) false [] (digits 16 false n)

-- the first line: the types of the columns, and the digest of the last write
unfoldable pub first_line : List ℕ → ℕ → List ℕ
first_line types e = types ++ (codes ",\"e\":\"" ++ (hex16 e ++ codes "\"}\n"))

-- the last line: the digest of all that stands before it
unfoldable pub last_line : ℕ → List ℕ
last_line c = codes "{\"c\":\"" ++ (hex16 c ++ codes "\"}\n")

abbrev pub signed : List ℕ → List ℕ
signed front = front ++ last_line (digest front)

-- the file of a table's state, whose last write has this digest
abbrev pub state_file : List ℕ → ℕ → TableState → List ℕ
state_file types e t = signed (first_line types e ++ state_text t)
