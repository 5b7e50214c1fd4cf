use Rattle.std.proofs.Common.{◌≡◌, ◌+◌, ◌-◌, ◌<◌, length, take, drop, sym, ◌∙◌, add-one, arith, length-drop, length-take}
use Rattle.std.proofs.lemmas.Bool.{eq-eqb, eqb-true}
use Rattle.std.proofs.lemmas.List.{get_or-take, take_all}
use Rattle.checked_log.proofs.Cuts.{around}
use Rattle.checked_log.proofs.fields.cut_at.Goals as goal

pub returns-in_err-place : goal.returns-in_err-place
returns-in_err-place c = rw c.from_residual.ensures (λ i p is. c.in_err-place.ensures i (omega arith) p (eq-eqb _ c.args.byte is))

pub returns : goal.returns
returns c =
    let text = c.args.text.now in
    let place = c.in_ok-place.place in
    let told = c.in_ok-place.ensures in
    let within : place < length text = told.0.high in
    let rest : take (length text - (place + 1)) (drop (place + 1) text) ≡ drop (place + 1) text =
    take_all (length text - (place + 1)) (drop (place + 1) text) (omega (arith, length-drop (place + 1) text)) in (
      λ i p is.
          let below : i < place = omega (arith, length-take place text) in
          told.0.before i (omega arith) below (eq-eqb _ c.args.byte (sym (get_or-take place text i 0 below) ∙ is)),
      rw rest (rw add-one (around text place c.args.byte within (eqb-true _ c.args.byte told.1))),
    )
