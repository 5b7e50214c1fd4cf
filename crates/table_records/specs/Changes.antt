-- What a change of a table's records leaves.
use Rattle.std.specs.Prelude.{◌≡◌, Option, Some, None, Result, MatchResult}
use Rattle.container_model.specs.declared.refusal.Why.{Why}
use Rattle.container_model.specs.Insert.{At, insert_at_refusal, insert_refusal}
use Rattle.container_model.specs.State.{State}
use Rattle.table_terms.specs.Table.{Cells, Keys, TableState, row_order}

-- why the container refuses a row: before a place of one index, or at its usual places
abbrev pub refusal_at : TableState → At → Cells → Option Why
refusal_at t None row = insert_refusal row_order t.records row
refusal_at t (Some at) row = insert_at_refusal row_order t.records at.0 at.1 row

-- nothing refused the change, and it leaves these records; or it left the table
abbrev pub Leaves : {T : Type 0} → Result T Why → TableState → TableState → Option Why → State Keys Cells → Type 0
Leaves r old new refusal records = MatchResult r (λ _. (refusal ≡ None) × (new ≡ record old { records = records })) (λ _. new ≡ old)
