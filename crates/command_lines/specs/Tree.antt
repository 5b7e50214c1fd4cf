-- What reading a text token by token finds.
use Rattle.std.specs.Prelude.{◌≡◌, ℕ, List, Option, Some, None, MatchOption, IsUtf8, option_map}
use Rattle.json.specs.Token.{Token}
use Rattle.serde_json.specs.Read.{converted, read}
use Rattle.serde_json.specs.View.{view}
use Rattle.serde_json.specs.declared.value.Value.{Value}

-- what is found is all that the grammar reads there, and the tokens behind it; nothing is found where the grammar reads nothing
abbrev pub Reads : {A B V : Type 0} → (A → Option B) → (V → B) → Option (A × List Token) → Option V → List Token → Type 0
Reads meant look tokens found rest = converted meant tokens ≡ option_map (λ v. (look v, rest)) found

-- the value of a line, where it has one
abbrev pub IsTreeOf : List ℕ → Option Value → Type 0
IsTreeOf line found = MatchOption found (IsUtf8 line → read line ≡ None) (λ tree. IsUtf8 line × (read line ≡ Some (view tree)))
