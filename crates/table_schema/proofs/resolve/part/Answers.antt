use Rattle.std.proofs.Common.{◌≡◌, ℕ, ◌≤◌, List, true, length, get_or, rules, ap, sym, ◌∙◌, subst, arith}
use Rattle.std.proofs.lemmas.List.{take_rest}
use Rattle.table_schema.specs.Resolved.{part_at, part_of}
use Rattle.table_schema.proofs.Keys.{part_of_falling}
use Rattle.table_schema.proofs.resolve.part.Goals as goal

pub returns-in-45 : goal.returns-in-45
returns-in-45 c =
    let text = c.as_bytes.result.now in
    let columns = c.args.columns.now in
    let e : get_or text 0 0 ≡ 45 = search rules in
    let l : 1 ≤ length text = omega arith in
    let falls = c.part_at.ensures ∙ (ap (part_at columns true) (take_rest text 1) ∙ sym (part_of_falling columns text l e)) in
    subst (λ (t : List ℕ). c.part_at.result ≡ part_of columns t) c.as_bytes.ensures.value falls
