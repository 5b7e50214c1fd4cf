use Rattle.std.proofs.Common.{◌≡◌, ◌+◌, ◌++◌, ◌∷◌, [], length, slice_get, Some, ap, sym, ◌∙◌, subst, arith}
use Rattle.std.proofs.lemmas.List.{length-append}
use Rattle.std.proofs.lemmas.Option.{slice_get_within}
use Rattle.list_model.specs.Walk.{next}
use Rattle.node_store.specs.ByNode.{same_node}
use Rattle.node_store.specs.Nodes.{Holds}
use Rattle.node_store.specs.Store.{IsNodeOf}
use Rattle.any_index.proofs.Runs.{next_is}
use Rattle.index_set.specs.Set.{store_of, record_of, list_of}
use Rattle.index_set.proofs.Members.{nodes_held_at, distinct_at, Holds_at}
use Rattle.linked_set.specs.Linked.{handle_of}
use Rattle.linked_set.proofs.Walks.{HasMet, one_met, all_met, member_at}
use Rattle.linked_set.proofs.walk.in_order.Goals as goal

pub handle_at-requires : goal.handle_at-requires
handle_at-requires g c =
    member_at (IsNodeOf (store_of (g.S.Nodes.parts c.args.set.now))) (list_of (g.S.Nodes.parts c.args.set.now) c.args.index) (length c.loop-next.handles.items) c.in-Some.node
    (sym c.loop-next.invariant.place ∙ c.in-Some.is) (nodes_held_at (g.S.Nodes.parts c.args.set.now) c.requires.sound c.args.index c.requires.index)

pub next-next-requires-clause-held : goal.next-next-requires-clause-held
next-next-requires-clause-held g c =
    subst (λ l. Holds l c.in-Some.node) (sym c.at-listed.ensures.list)
    (Holds_at (list_of (g.S.Nodes.parts c.args.set.now) c.args.index) (length c.loop-next.handles.items) c.in-Some.node (sym c.loop-next.invariant.place ∙ c.in-Some.is))

pub loop-next-smaller : goal.loop-next-smaller
loop-next-smaller g c =
    let more : length c.push.new.self.items ≡ length c.loop-next.handles.items + 1 = ap length c.in_ok-push.ensures.items ∙ length-append c.loop-next.handles.items (c.handle_at.result ∷ []) in
    let within = slice_get_within (list_of (g.S.Nodes.parts c.args.set.now) c.args.index) (length c.loop-next.handles.items) c.in-Some.node (sym c.loop-next.invariant.place ∙ c.in-Some.is) in
    omega (arith, more, within)

pub loop-next-preserved : goal.loop-next-preserved
loop-next-preserved g c =
    let xs = list_of (g.S.Nodes.parts c.args.set.now) c.args.index in
    let f = handle_of (record_of (g.S.Nodes.parts c.args.set.now)) in
    let met = c.loop-next.handles.items in
    let here : slice_get xs (length met) ≡ Some c.in-Some.node = sym c.loop-next.invariant.place ∙ c.in-Some.is in
    let pushed : c.push.new.self.items ≡ met ++ f c.in-Some.node ∷ [] = c.in_ok-push.ensures.items ∙ ap (λ h. met ++ h ∷ []) c.handle_at.ensures in
    let more : length met + 1 ≡ length c.push.new.self.items = sym (ap length pushed ∙ length-append met (f c.in-Some.node ∷ [])) in
    record {
      place = c.next-next.ensures ∙ ap (next (same_node c.in-Some.node)) c.at-listed.ensures.list ∙ next_is xs (length met) c.in-Some.node (distinct_at (g.S.Nodes.parts c.args.set.now) c.requires.sound c.args.index c.requires.index) here ∙ ap (slice_get xs) more;
      met = subst (HasMet f xs) (sym pushed) (one_met f xs met c.in-Some.node here c.loop-next.invariant.met);
    }

pub returns : goal.returns
returns g c =
    all_met (handle_of (record_of (g.S.Nodes.parts c.args.set.now))) (list_of (g.S.Nodes.parts c.args.set.now) c.args.index) c.loop-next.handles.items (sym c.loop-next.invariant.place ∙ c.in_default.is) c.loop-next.invariant.met
