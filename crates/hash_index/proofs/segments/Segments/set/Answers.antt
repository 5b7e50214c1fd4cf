use Rattle.std.proofs.Common.{length, set, ap, sym, ◌∙◌, arith}
use Rattle.std.proofs.lemmas.List.{length-set}
use Rattle.hash_index.specs.Segments.{all_in, items_of, capacity_of}
use Rattle.hash_index.proofs.InSegments.{stands, part_is, part_below, part_set, put_shape, put_spare}
use Rattle.hash_index.proofs.segments.Segments.set.Goals as goal

pub index_mut-requires : goal.index_mut-requires
index_mut-requires c =
    let s = c.args.self.now in
    let part = stands s.segments.items c.args.chain _ _ s.shape (omega (arith, s.ok, c.requires)) c.locate-segment.ensures in
    omega (arith, part_below _ _ _ _ part, s.segments.ok.0)

pub set-requires : goal.set-requires
set-requires c =
    let s = c.args.self.now in
    let part = stands s.segments.items c.args.chain _ _ s.shape (omega (arith, s.ok, c.requires)) c.locate-segment.ensures in
    let is = part_is _ _ _ _ part c.index_mut.result.now c.index_mut.ensures.value in
    omega (arith, part.within, ap (λ v. length (items_of v)) is)

pub invariant_of-self : goal.invariant_of-self
invariant_of-self c =
    let s = c.args.self.now in
    let part = stands s.segments.items c.args.chain _ _ s.shape (omega (arith, s.ok, c.requires)) c.locate-segment.ensures in
    let is = part_is _ _ _ _ part c.index_mut.result.now c.index_mut.ensures.value in
    let items = c.set.ensures.heads ∙ ap (λ v. set (items_of v) c.locate-segment.result.1 c.args.head) is in
    let heads = part_set _ _ _ _ part c.set.new.self c.args.head items in
    let room = put_spare _ _ _ _ part c.set.new.self (ap length items ∙ length-set _ _ _) (c.set.ensures.capacity ∙ ap capacity_of is) in
    record {
      ok = s.ok ∙ (sym (length-set (all_in s.segments.items) c.args.chain c.args.head) ∙ ap length (sym heads));
      small = omega (arith, s.small, room);
      shape = put_shape _ _ _ _ part c.set.new.self (ap length items ∙ length-set _ _ _) (c.set.ensures.capacity ∙ ap capacity_of is) 512 s.shape;
    }

pub returns-clause-heads : goal.returns-clause-heads
returns-clause-heads c =
    let s = c.args.self.now in
    let part = stands s.segments.items c.args.chain _ _ s.shape (omega (arith, s.ok, c.requires)) c.locate-segment.ensures in
    let is = part_is _ _ _ _ part c.index_mut.result.now c.index_mut.ensures.value in
    part_set _ _ _ _ part c.set.new.self c.args.head (c.set.ensures.heads ∙ ap (λ v. set (items_of v) c.locate-segment.result.1 c.args.head) is)

pub returns-clause-room : goal.returns-clause-room
returns-clause-room c =
    let s = c.args.self.now in
    let part = stands s.segments.items c.args.chain _ _ s.shape (omega (arith, s.ok, c.requires)) c.locate-segment.ensures in
    let is = part_is _ _ _ _ part c.index_mut.result.now c.index_mut.ensures.value in
    let items = c.set.ensures.heads ∙ ap (λ v. set (items_of v) c.locate-segment.result.1 c.args.head) is in
    put_spare _ _ _ _ part c.set.new.self (ap length items ∙ length-set _ _ _) (c.set.ensures.capacity ∙ ap capacity_of is)
