use Rattle.std.proofs.Common.{◌≡◌, ◌+◌, ◌-◌, [], ◌∷◌, ◌++◌, length, set, ap, ◌∙◌, arith, length-append}
use Rattle.hash_index.specs.Segments.{all_in, items_of, capacity_of, AreSegments}
use Rattle.hash_index.proofs.InSegments.{spare_last, last_count, last_is, last_fits, last_heads, last_room, last_spare}
use Rattle.hash_index.proofs.segments.Segments.push_reserved.Goals as goal

pub push_reserved-requires : goal.push_reserved-requires
push_reserved-requires c =
    let s = c.args.self.now in
    let last = spare_last s.segments.items c.requires in
    let some = last_count s.segments.items last in
    let count : (c.len-last.result - 1) + 1 ≡ length s.segments.items = omega (arith, some, c.len-last.ensures, s.segments.ok.0) in
    let is = last_is s.segments.items last (c.len-last.result - 1) c.index_mut.result.now count c.index_mut.ensures.value in
    omega (arith, last_room s.segments.items last c.requires, ap (λ v. length (items_of v)) is, ap capacity_of is)

pub invariant_of-self : goal.invariant_of-self
invariant_of-self c =
    let s = c.args.self.now in
    let last = spare_last s.segments.items c.requires in
    let some = last_count s.segments.items last in
    let count : (c.len-last.result - 1) + 1 ≡ length s.segments.items = omega (arith, some, c.len-last.ensures, s.segments.ok.0) in
    let is = last_is s.segments.items last (c.len-last.result - 1) c.index_mut.result.now count c.index_mut.ensures.value in
    let new = c.push_reserved.new.self in
    let heads = last_heads s.segments.items last (c.len-last.result - 1) new c.args.head count (c.push_reserved.ensures.heads ∙ ap (λ v. items_of v ++ c.args.head ∷ []) is) in
    let shape : AreSegments 512 (set s.segments.items (c.len-last.result - 1) new) = last_fits s.segments.items last 512 (c.len-last.result - 1) new count (c.push_reserved.ensures.capacity ∙ ap capacity_of is) s.shape in
    let items : items_of new ≡ items_of last.segment ++ c.args.head ∷ [] = c.push_reserved.ensures.heads ∙ ap (λ v. items_of v ++ c.args.head ∷ []) is in
    let len : length (items_of new) ≡ length (items_of last.segment) + 1 = omega (arith, ap length items, length-append (items_of last.segment) (c.args.head ∷ [])) in
    let room = last_spare s.segments.items last (c.len-last.result - 1) new count len (c.push_reserved.ensures.capacity ∙ ap capacity_of is) c.requires in
    let ok : s.len + 1 ≡ length (all_in (set s.segments.items (c.len-last.result - 1) new)) = omega (arith, s.ok, ap length heads, length-append (all_in s.segments.items) (c.args.head ∷ [])) in
    record { ok = ok; small = omega (arith, s.small, room); shape = shape }

pub returns-clause-heads : goal.returns-clause-heads
returns-clause-heads c =
    let s = c.args.self.now in
    let last = spare_last s.segments.items c.requires in
    let some = last_count s.segments.items last in
    let count : (c.len-last.result - 1) + 1 ≡ length s.segments.items = omega (arith, some, c.len-last.ensures, s.segments.ok.0) in
    let is = last_is s.segments.items last (c.len-last.result - 1) c.index_mut.result.now count c.index_mut.ensures.value in
    last_heads s.segments.items last (c.len-last.result - 1) c.push_reserved.new.self c.args.head count (c.push_reserved.ensures.heads ∙ ap (λ v. items_of v ++ c.args.head ∷ []) is)

pub returns-clause-room : goal.returns-clause-room
returns-clause-room c =
    let s = c.args.self.now in
    let last = spare_last s.segments.items c.requires in
    let some = last_count s.segments.items last in
    let count : (c.len-last.result - 1) + 1 ≡ length s.segments.items = omega (arith, some, c.len-last.ensures, s.segments.ok.0) in
    let is = last_is s.segments.items last (c.len-last.result - 1) c.index_mut.result.now count c.index_mut.ensures.value in
    let new = c.push_reserved.new.self in
    let items : items_of new ≡ items_of last.segment ++ c.args.head ∷ [] = c.push_reserved.ensures.heads ∙ ap (λ v. items_of v ++ c.args.head ∷ []) is in
    let len : length (items_of new) ≡ length (items_of last.segment) + 1 = omega (arith, ap length items, length-append (items_of last.segment) (c.args.head ∷ [])) in
    last_spare s.segments.items last (c.len-last.result - 1) new count len (c.push_reserved.ensures.capacity ∙ ap capacity_of is) c.requires
