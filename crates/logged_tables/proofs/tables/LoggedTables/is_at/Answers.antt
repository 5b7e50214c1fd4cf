use Rattle.std.proofs.Common.{◌≡◌, Some, slice_get, ap, ◌∙◌, arith, rules}
use Rattle.logged_tables.proofs.tables.LoggedTables.is_at.Goals as goal

pub returns : goal.returns
returns g c = λ is.
    let names : c.args.self.now ≡ c.deref.result.now = search rules in
    record { numbered = omega arith; named = (λ i. slice_get (names i) c.args.place) ∙ c.is_named.ensures is ∙ ap (λ n. Some n) c.name.ensures; kept = c.mark-mark.ensures.kept }
