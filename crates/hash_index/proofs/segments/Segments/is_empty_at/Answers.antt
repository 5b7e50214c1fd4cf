use Rattle.std.proofs.Common.{length, ap, sym, ◌∙◌, arith}
use Rattle.std.specs.List.{slice_get}
use Rattle.hash_index.specs.Segments.{items_of}
use Rattle.hash_index.proofs.InSegments.{stands, part_is, part_below, part_get}
use Rattle.hash_index.proofs.segments.Segments.is_empty_at.Goals as goal

pub index-requires : goal.index-requires
index-requires c =
    let s = c.args.self.now in
    let part = stands s.segments.items c.args.chain _ _ s.shape (omega (arith, s.ok, c.requires)) c.locate-segment.ensures in
    omega (arith, part_below _ _ _ _ part, s.segments.ok.0)

pub is_empty_at-requires : goal.is_empty_at-requires
is_empty_at-requires c =
    let s = c.args.self.now in
    let part = stands s.segments.items c.args.chain _ _ s.shape (omega (arith, s.ok, c.requires)) c.locate-segment.ensures in
    let is = part_is _ _ _ _ part c.index.result.now c.index.ensures in
    omega (arith, part.within, ap (λ v. length (items_of v)) is)

pub returns : goal.returns
returns c = λ h at.
    let s = c.args.self.now in
    let part = stands s.segments.items c.args.chain _ _ s.shape (omega (arith, s.ok, c.requires)) c.locate-segment.ensures in
    let is = part_is _ _ _ _ part c.index.result.now c.index.ensures in
    c.is_empty_at.ensures h (ap (λ v. slice_get (items_of v) c.locate-segment.result.1) is ∙ (sym (part_get _ _ _ _ part) ∙ at))
