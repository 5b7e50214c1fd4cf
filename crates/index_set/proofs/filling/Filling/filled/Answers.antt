use Rattle.any_index.specs.Keyed.{marks_of}
use Rattle.std.proofs.Common.{◌≡◌, ◌<◌, length, ◌∙◌, sym, ap, subst, arith, get_or, [], None}
use Rattle.std.specs.Prelude.{slice_set, IsTrue, Option}
use Rattle.std.proofs.lemmas.List.{length-map, get_or_default}
use Rattle.node_store.specs.declared.Node.{Node}
use Rattle.node_store.specs.Column.{KeepsOthers}
use Rattle.node_store.specs.Store.{age_of}
use Rattle.node_store.specs.ByNode.{column_of, record_of, columns_in}
use Rattle.node_store.proofs.ByNode.{records_kept}
use Rattle.container_model.specs.declared.handle.Spec.{Spec}
use Rattle.any_index.specs.Spelled.{list_of, col_of}
use Rattle.index_set.specs.Added.{HasEachKeyOnce, entered_all}
use Rattle.index_set.specs.Indices.{IsPlaced}
use Rattle.index_set.specs.Lists.{AreUniqueFrom}
use Rattle.index_set.specs.Refilled.{CanRefill, order_here, new_list}
use Rattle.index_set.specs.declared.parts.Parts.{Parts}
use Rattle.index_set.specs.Set.{lists_of, specs_of}
use Rattle.index_set.proofs.Frame.{Steps}
use Rattle.index_set.proofs.Moving.{stepped, sound_moved, lists_moved, keyed_put}
use Rattle.index_set.proofs.Reading.{kind_here}
use Rattle.index_set.proofs.Refilling.{refilled_step, unique_refilled}
use Rattle.index_set.proofs.filling.Filling.filled.Given.{Over}
use Rattle.index_set.proofs.filling.Filling.filled.Goals.{Joined-index_mut-made}
use Rattle.index_set.proofs.filling.Filling.filled.Goals as goal

pub build-requires-clause-wide : goal.build-requires-clause-wide
build-requires-clause-wide g c =
    let sound = c.self.invariant.sound in
    let can = subst (λ (s : Parts _ _). CanRefill g.E.Extract s c.args.index c.args.nodes.now) (sym c.self.view_is) c.requires in
    let below = sound.within.each c.args.index c.index-spec.result.now c.index.result.now can.within in
    omega (arith, below, ap col_of c.index.ensures, c.col-column.ensures.col, sound.wide)

-- there is such an index
there : (g : Over) (c : Joined-index_mut-made g) → c.args.index < length (specs_of c.self.inside.parts)
there g c = let can = subst (λ (s : Parts _ _). CanRefill g.E.Extract s c.args.index c.args.nodes.now) (sym c.self.view_is) c.requires in can.within

-- what the place of the old index was for
spec_here : (g : Over) (c : Joined-index_mut-made g) → c.index-spec.result.now ≡ get_or c.self.inside.parts.specs.items c.args.index c.index-spec.result.now
spec_here g c = c.index-spec.ensures

column_here : (g : Over) (c : Joined-index_mut-made g) → c.col-column.result ≡ col_of c.index.result.now
column_here g c = c.col-column.ensures.col

-- the new index steps into the place of the old one
step : (g : Over) (c : Joined-index_mut-made g) → Steps c.self.inside.parts.store c.build.new.store c.index.result.now c.in_ok-made.made
step g c =
    let s = c.self.inside.parts in
    let spec = c.index-spec.result.now in
    let old = c.index.result.now in
    let b = c.in_ok-made.ensures in
    let was : IsPlaced (columns_in s.store) c.args.index spec old =
    subst (λ z. IsPlaced (columns_in s.store) c.args.index z old) (sym (spec_here g c))
    (subst (λ z. IsPlaced (columns_in s.store) c.args.index (get_or s.specs.items c.args.index spec) z) (sym c.index.ensures) (c.self.invariant.sound.placed.each c.args.index spec old (there g c))) in
    refilled_step s.store c.build.new.store c.args.index spec old c.in_ok-made.made was b.placed (b.column ∙ column_here g c)
    (subst (KeepsOthers (column_of s.store) (column_of c.build.new.store)) (column_here g c) c.build.ensures.others) c.build.ensures.contents

-- its list is the one that is defined
listed : (g : Over) (c : Joined-index_mut-made g) → list_of (columns_in c.build.new.store) c.in_ok-made.made ≡ new_list g.E.Extract c.self.inside.parts c.args.index c.args.nodes.now
listed g c =
    let s = c.self.inside.parts in
    let b = c.in_ok-made.ensures in
    b.list
    ∙ ap (λ kind. entered_all (age_of s.store) (order_here g.E.Extract s c.args.index c.args.nodes.now) kind [] c.args.nodes.now)
    (sym b.placed.kind ∙ ((step g c).kind ∙ kind_here s c.self.invariant.sound c.args.index (there g c) c.index.result.now c.index.ensures))

pub invariant_of-result : goal.invariant_of-result
invariant_of-result g c =
    let s = c.self.inside.parts in
    let k = c.args.index in
    let within = there g c in
    let sound = c.self.invariant.sound in
    let order = g.E.Extract.order_of s.keys in
    let xs = new_list g.E.Extract s k c.args.nodes.now in
    let spec = c.index-spec.result.now in
    let made = c.in_ok-made.made in
    let lists = lists_moved s sound k within c.index.result.now made c.index.ensures c.build.new.store (step g c) xs (listed g c) in
    let kept = records_kept s.store c.build.new.store c.build.ensures.contents in
    let all = unique_refilled order (record_of s.store) s.specs.items (lists_of s) k xs (length-map s.indices.items (list_of (columns_in s.store)) ∙ sound.placed.one_each) within c.self.invariant.unique
    (λ d unique.
    subst (HasEachKeyOnce (order_here g.E.Extract s k c.args.nodes.now)) (listed g c)
    (c.in_ok-made.ensures.unique (subst (λ (z : Spec). IsTrue z.unique) (get_or_default s.specs.items k d spec within ∙ sym (spec_here g c)) unique))) in
    record {
      sound = sound_moved s sound k within c.index.result.now made c.index.ensures c.build.new.store (step g c);
      keyed = keyed_put s sound k within c.index.result.now made c.index.ensures c.build.new.store (step g c) order (marks_of g.E.Extract s.keys) c.in_ok-made.ensures.keyed c.self.invariant.keyed;
      unique =
          subst (λ ls. AreUniqueFrom order (record_of c.build.new.store) None 0 s.specs.items ls) (sym lists)
          (subst (λ (r : Node → Option _). AreUniqueFrom order r None 0 s.specs.items (slice_set (lists_of s) k xs)) (sym kept) all);
    }

pub returns-clause-filed : goal.returns-clause-filed
returns-clause-filed g c = invariant_of-result g c

pub returns-clause-lists : goal.returns-clause-lists
returns-clause-lists g c =
    let s = c.self.inside.parts in
    let made = c.in_ok-made.made in
    let k = c.args.index in
    subst (λ (z : Parts _ _). lists_of (stepped s k made c.build.new.store) ≡ slice_set (lists_of z) k (new_list g.E.Extract z k c.args.nodes.now)) c.self.view_is
    (lists_moved s c.self.invariant.sound k (there g c) c.index.result.now made c.index.ensures c.build.new.store (step g c) (new_list g.E.Extract s k c.args.nodes.now) (listed g c))
