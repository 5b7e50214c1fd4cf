use Rattle.std.proofs.Common.{◌≡◌, length, ap, sym, ◌∙◌, subst, arith}
use Rattle.hash_index.specs.Segments.{all_in, spare, AreSegments}
use Rattle.hash_index.proofs.InSegments.{heads_more, spare_more, shape_more}
use Rattle.hash_index.proofs.segments.Segments.add_segment.Goals as goal

pub invariant_of-self : goal.invariant_of-self
invariant_of-self c =
    let r = c.reserve_segment.new.self in
    let new = c.in_ok-segment.segment in
    let is = c.push_reserved.ensures.items in
    let heads : all_in c.push_reserved.new.self.items ≡ all_in r.segments.items = ap all_in is ∙ heads_more r.segments.items new c.in_ok-segment.ensures.empty in
    let full : spare r.segments.items ≡ 0 = ap spare c.reserve_segment.ensures.same ∙ c.requires in
    let room : spare c.push_reserved.new.self.items ≡ 512 = omega (arith, ap spare is, spare_more r.segments.items new, ap length c.in_ok-segment.ensures.empty, c.in_ok-segment.ensures.exact) in
    record {
      ok = r.ok ∙ ap length (sym heads);
      small = omega (arith, room, c.reserve_segment.ensures.len, c.if-self-gt-MOST.false);
      shape = subst (AreSegments 512) (sym is) (shape_more 512 r.segments.items new full c.in_ok-segment.ensures.exact r.shape);
    }

pub returns-clause-heads : goal.returns-clause-heads
returns-clause-heads c =
    ap all_in c.push_reserved.ensures.items
    ∙ (heads_more c.reserve_segment.new.self.segments.items c.in_ok-segment.segment c.in_ok-segment.ensures.empty ∙ ap all_in c.reserve_segment.ensures.same)

pub returns-clause-room : goal.returns-clause-room
returns-clause-room c =
    let new = c.in_ok-segment.segment in
    omega (arith, ap spare c.push_reserved.ensures.items, spare_more c.reserve_segment.new.self.segments.items new, ap length c.in_ok-segment.ensures.empty, c.in_ok-segment.ensures.exact)
