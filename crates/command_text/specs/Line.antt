-- Texts of one line.
use Rattle.std.specs.Prelude.{◌≡◌, ℕ, ◌==◌, nat_le, Bool, List, true, false}
use Rattle.std.specs.List.{All, list_all}

-- no byte is a newline
abbrev pub IsOneLine : List ℕ → Type 0
IsOneLine text = All (λ b. (b == 10) ≡ false) text

-- whether no byte is a control character
abbrev pub is_plain : List ℕ → Bool
is_plain text = list_all (λ b. nat_le 32 b) text

abbrev pub IsPlain : List ℕ → Type 0
IsPlain text = is_plain text ≡ true
