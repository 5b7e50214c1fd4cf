-- Texts that say where the program listens.
use Rattle.std.specs.Prelude.{◌≡◌, ◌≢◌, ◌++◌, List, [], ℕ, codes}
use Rattle.std.specs.Net.Grammar.{IsSocketText}
use Rattle.program_words.specs.declared.address.Address.{Address}
use Rattle.program_words.specs.declared.address.Address.TheVariants.{Unix, Tcp}

-- the text is `unix:` and a path that is not empty, or `tcp:` and a text of a socket address
abbrev pub IsAddress : List ℕ → Address → Type 0
IsAddress text (Unix path) = (text ≡ codes "unix:" ++ path.now) × (path.now ≢ [])
IsAddress text (Tcp place) = (rest : List ℕ) × (text ≡ codes "tcp:" ++ rest) × IsSocketText rest place

-- the text is of neither form
abbrev pub IsNoAddress : List ℕ → Type 0
IsNoAddress text = (address : Address) → IsAddress text address → ⊥
