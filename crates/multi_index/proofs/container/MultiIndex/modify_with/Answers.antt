use Rattle.std.proofs.Common.{◌≡◌, ◌∙◌, Some, Result, Ok, Err, refl, ap, sym, subst}
use Rattle.std.specs.Prelude.{IfOk, OnOk}
use Rattle.std.specs.Fn.{FnOnceReturnsAtMut}
use Rattle.std.proofs.lemmas.Option.{same_Some}
use Rattle.container_model.specs.Change.{with_modified}
use Rattle.container_model.specs.Insert.{ban}
use Rattle.linked_set.specs.Modified.{told}
use Rattle.multi_index.proofs.container.MultiIndex.modify_with.Goals as goal

-- what was made, with what a success answers and leaves
made : {X A E : Type 0} (r : Result A E) (x : X) (Gave : X → Type 0) (answer : X → A) (Left : X → Type 0) → Gave x → OnOk r (Left x) → IfOk r (λ a. a ≡ answer x) → OnOk r ((y : X) × Gave y × (r ≡ Ok (answer y)) × Left y)
made (Ok a) x Gave answer Left gave left is = (x, gave, ap Ok is, left)
made (Err e) x Gave answer Left gave left is = tt

pub returns-clause-ok : goal.returns-clause-ok
returns-clause-ok g c old live =
    let s = c.args.self.now in
    let order = g.E.Extract.order_of in
    let row = c.change.new.arg2 in
    let same : c.in_ok-row.row ≡ old = same_Some _ _ (sym c.in_ok-row.ensures.row ∙ live) in
    let gave : FnOnceReturnsAtMut g.F.FnOnce c.args.change c.in_ok-row.row c.change.result row = record { shown = _; shows = refl; left = _; met = c.change.ensures; leaves = refl } in
    made c.modify.result row (λ y. FnOnceReturnsAtMut g.F.FnOnce c.args.change old tt y) (λ y. told (ban order s (Some c.args.handle) y) y) (λ y. c.modify.new.self ≡ with_modified order s c.args.handle y)
    (subst (λ r. FnOnceReturnsAtMut g.F.FnOnce c.args.change r tt row) same gave)
    (subst (λ y. OnOk c.modify.result (c.modify.new.self ≡ with_modified order s c.args.handle y)) c.new.ensures (c.modify.ensures.ok old live))
    (subst (λ y. IfOk c.modify.result (λ a. a ≡ told (ban order s (Some c.args.handle) y) y)) c.new.ensures (c.modify.ensures.answer old live))
