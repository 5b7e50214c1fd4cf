use Rattle.std.proofs.Common.{◌≡◌, Some, None, Err, IsOkAnd, subst, arith}
use Rattle.command_lines.proofs.Spelling.{split_spelling, number_read}
use Rattle.command_lines.proofs.handle.numbers_of.Goals as goal

pub returns-in_err-slot-clause-spelled : goal.returns-in_err-slot-clause-spelled
returns-in_err-slot-clause-spelled c h fits e =
    absurd (split_spelling c.args.text.now h None fits e c.in_err-slot.ensures.cases)

pub returns-in-Ok-Ok-clause-spelled : goal.returns-in-Ok-Ok-clause-spelled
returns-in-Ok-Ok-clause-spelled c h fits e =
    let parts = split_spelling c.args.text.now h (Some (c.in_ok-slot.slot, c.in_ok-slot.stamp)) fits e c.in_ok-slot.ensures.cases in
    let slot = number_read 32 h.slot c.in_ok-slot.slot.now c.parse.result fits.0 (omega (arith, fits.0)) parts.0 (c.parse.ensures.value.0) in
    let stamp = number_read 64 h.stamp c.in_ok-slot.stamp.now c.parse-2.result fits.1 fits.1 parts.1 (c.parse-2.ensures.value.0) in
    let slot_is = subst (λ r. IsOkAnd r (λ m. m ≡ h.slot)) c.in-Ok-Ok.is-0 slot in
    let stamp_is = subst (λ r. IsOkAnd r (λ m. m ≡ h.stamp)) c.in-Ok-Ok.is-1 stamp in
    λ i. record { slot = slot_is i; stamp = stamp_is i }

pub returns-in_default-clause-spelled : goal.returns-in_default-clause-spelled
returns-in_default-clause-spelled c h fits e =
    let parts = split_spelling c.args.text.now h (Some (c.in_ok-slot.slot, c.in_ok-slot.stamp)) fits e c.in_ok-slot.ensures.cases in
    number_read 64 h.stamp c.in_ok-slot.stamp.now (Err c.in_default.field-0-1) fits.1 fits.1 parts.1 (c.in_default.ensures'.value.0)

pub returns-in_default-2-clause-spelled : goal.returns-in_default-2-clause-spelled
returns-in_default-2-clause-spelled c h fits e =
    let parts = split_spelling c.args.text.now h (Some (c.in_ok-slot.slot, c.in_ok-slot.stamp)) fits e c.in_ok-slot.ensures.cases in
    let slot = number_read 32 h.slot c.in_ok-slot.slot.now c.parse.result fits.0 (omega (arith, fits.0)) parts.0 (c.parse.ensures.value.0) in
    subst (λ r. IsOkAnd r (λ m. m ≡ h.slot)) c.in_default.is-0 slot
