use Rattle.std.proofs.Common.{◌≡◌, ◌∙◌, refl, sym, subst}
use Rattle.std.specs.Fn.{FnOnceReturnsAtMut}
use Rattle.std.proofs.lemmas.Option.{same_Some}
use Rattle.multi_index.proofs.container.MultiIndex.replace_with.Goals as goal

pub returns-in-Ok-clause-live : goal.returns-in-Ok-clause-live
returns-in-Ok-clause-live g c old live =
    let row = c.change.new.arg2 in
    let same : c.in_ok-row.row ≡ old = same_Some _ _ (sym c.in_ok-row.ensures.row ∙ live) in
    let gave : FnOnceReturnsAtMut g.F.FnOnce c.args.change c.in_ok-row.row c.change.result row = record { shown = _; shows = refl; left = _; met = c.change.ensures; leaves = refl } in
    (row, subst (λ r. FnOnceReturnsAtMut g.F.FnOnce c.args.change r tt row) same gave, (c.in-Ok.ensures.allowed, c.in-Ok.ensures.ok))

pub returns-in-Err-clause-live : goal.returns-in-Err-clause-live
returns-in-Err-clause-live g c old live =
    let row = c.change.new.arg2 in
    let same : c.in_ok-row.row ≡ old = same_Some _ _ (sym c.in_ok-row.ensures.row ∙ live) in
    let gave : FnOnceReturnsAtMut g.F.FnOnce c.args.change c.in_ok-row.row c.change.result row = record { shown = _; shows = refl; left = _; met = c.change.ensures; leaves = refl } in
    (row, subst (λ r. FnOnceReturnsAtMut g.F.FnOnce c.args.change r tt row) same gave, c.in-Err.ensures.why)
