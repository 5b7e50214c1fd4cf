-- A line that was printed token by token.
use Rattle.std.proofs.Common.{◌≡◌, [], ◌++◌, Result, Ok, Err, codes, ap, ap₂, subst, ◌∙◌}
use Rattle.json.specs.Print.{print}
use Rattle.json.specs.Written.{Written}
use Rattle.serde_json.specs.Data.{Data}
use Rattle.serde_json.specs.Written.{compact_text}
use Rattle.serde_json.proofs.Texts.{print-outline}
use Rattle.table_reply.specs.Buffer.{Buffer, AddsOrNot}
use Rattle.table_reply.specs.Printed.{AddsPrinted, Prints, data_tokens}

-- it is the text of the value whose tokens were written
pub printed : {T E F : Type 0} (p : Result (Unit {0}) E) (r : Result T F) (old new : Buffer) (from line : Written) (d : Data) → (from.before ≡ []) × (from.tokens ≡ []) → Prints p from line (data_tokens d)
    → AddsPrinted p r old new (line.before ++ (print line.tokens ++ codes "\n")) → AddsOrNot r old new (compact_text d ++ codes "\n")
printed (Ok y) r old new from line d empty wrote added =
    let tokens = wrote.1 ∙ ap (λ ts. ts ++ data_tokens d) empty.1 in
    let e = ap₂ (λ b ts. b ++ (print ts ++ codes "\n")) (wrote.0 ∙ empty.0) tokens ∙ ap (λ s. s ++ codes "\n") (print-outline d) in
    subst (AddsOrNot r old new) e added
printed (Err y) (Ok x) old new from line d empty wrote added = elim added [ ]
printed (Err y) (Err x) old new from line d empty wrote added = added
