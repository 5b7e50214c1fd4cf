-- For private clauses: what is printed token by token.
use Rattle.std.specs.Prelude.{◌≡◌, ℕ, ◌≤◌, List, ◌++◌, Result, MatchResult, ⊤}
use Rattle.json.specs.Token.{Token}
use Rattle.json.specs.Tree.{json_tokens, items_tokens}
use Rattle.json.specs.Written.{Written}
use Rattle.serde_json.specs.Data.{Data, Items}
use Rattle.serde_json.specs.Written.{outline, items_outline}
use Rattle.table_reply.specs.Buffer.{Buffer, AddsOrNot}

-- the tokens of a value
abbrev pub data_tokens : Data → List Token
data_tokens d = json_tokens (outline d)

-- the tokens of items, with the closing bracket
abbrev pub list_tokens : Items → List Token
list_tokens ds = items_tokens (items_outline ds)

-- the tokens are written behind those before
abbrev pub Prints : {E : Type 0} → Result (Unit {0}) E → Written → Written → List Token → Type 0
Prints r old new ts = MatchResult r (λ _. (new.before ≡ old.before) × (new.tokens ≡ old.tokens ++ ts)) (λ _. ⊤)

-- where the printing went well, the text is appended or not; else it is not
abbrev pub AddsPrinted : {S E T F : Type 0} → Result S E → Result T F → Buffer → Buffer → List ℕ → Type 0
AddsPrinted printed r old new text = MatchResult printed
    (λ _. AddsOrNot r old new text)
    (λ _. MatchResult r (λ _. ⊥) (λ _. (new.bytes ≡ old.bytes) × (old.room ≤ new.room)))
