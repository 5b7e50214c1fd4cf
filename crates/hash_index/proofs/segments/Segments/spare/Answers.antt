use Rattle.std.proofs.Common.{◌-◌, length, ap, ◌∙◌}
use Rattle.std.specs.List.{slice_get}
use Rattle.hash_index.proofs.InSegments.{spare_is}
use Rattle.hash_index.proofs.segments.Segments.spare.Goals as goal

pub returns-in-Some : goal.returns-in-Some
returns-in-Some c =
    c.spare.ensures ∙ spare_is c.args.self.now.segments.items c.in-Some.last.now (c.in-Some.ensures.value ∙ ap (λ z. slice_get z (length z - 1)) c.deref.ensures.value)
