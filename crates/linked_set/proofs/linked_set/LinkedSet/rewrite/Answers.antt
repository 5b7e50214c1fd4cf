use Rattle.std.proofs.Common.{◌∙◌, ap, sym}
use Rattle.std.specs.Prelude.{option_map}
use Rattle.container_model.specs.declared.handle.Entry.{Entry}
use Rattle.container_model.specs.State.{row_of}
use Rattle.container_model.specs.Change.{with_replaced}
use Rattle.linked_set.specs.Records.{alone, records_in, row_kept_out, state_of}
use Rattle.linked_set.proofs.Live.{none_seen}
use Rattle.linked_set.proofs.Named.{named_at, kept_out_live, kept_out_stale}
use Rattle.linked_set.proofs.Seen.{seen_replaced}
use Rattle.linked_set.proofs.Whole.{all_held, is_there}
use Rattle.linked_set.proofs.Written.{not_banned, listed_after, listed_replaced}
use Rattle.linked_set.proofs.linked_set.LinkedSet.rewrite.Goals as goal

pub returns-in_default-clause-why : goal.returns-in_default-clause-why
returns-in_default-clause-why g c =
    let order = g.E.Extract.order_of in
    let none = none_seen c.self.inside.set c.self.inside.slots.items c.self.invariant.linked c.args.handle (λ n at. c.node_at.ensures.none n c.in_default.is at) in
    sym (ap (λ r. row_kept_out order r c.args.handle c.args.row c.args.limit) (sym c.self.view_is) ∙ kept_out_stale order (records_in c.self.inside.set) c.args.handle c.args.row c.args.limit none)

pub keeps_out-requires-clause-held : goal.keeps_out-requires-clause-held
keeps_out-requires-clause-held g c =
    let name = named_at c.self.inside.set c.self.inside.slots.items c.self.invariant.linked c.args.handle c.in-Some.node (c.node_at.ensures.found c.in-Some.node c.in-Some.is) in
    (all_held c.self.inside.set c.self.inside.slots.items c.self.invariant).each c.in-Some.node name.node

pub returns-in-Some-keeps_out-clause-why : goal.returns-in-Some-keeps_out-clause-why
returns-in-Some-keeps_out-clause-why g c =
    let order = g.E.Extract.order_of in
    let name = named_at c.self.inside.set c.self.inside.slots.items c.self.invariant.linked c.args.handle c.in-Some.node (c.node_at.ensures.found c.in-Some.node c.in-Some.is) in
    sym c.in-Some-keeps_out.is
    ∙ (c.keeps_out.ensures
    ∙ (sym (kept_out_live order (records_in c.self.inside.set) c.args.handle c.args.row c.args.limit name.entry.row name.row) ∙ ap (λ r. row_kept_out order r c.args.handle c.args.row c.args.limit) c.self.view_is))

pub rewrite-requires-clause-held : goal.rewrite-requires-clause-held
rewrite-requires-clause-held g c =
    let name = named_at c.self.inside.set c.self.inside.slots.items c.self.invariant.linked c.args.handle c.in-Some.node (c.node_at.ensures.found c.in-Some.node c.in-Some.is) in
    (all_held c.self.inside.set c.self.inside.slots.items c.self.invariant).each c.in-Some.node name.node

pub invariant_of-self : goal.invariant_of-self
invariant_of-self g c =
    let set = c.self.inside.set in
    let linked = c.self.invariant.linked in
    let name = named_at set c.self.inside.slots.items linked c.args.handle c.in-Some.node (c.node_at.ensures.found c.in-Some.node c.in-Some.is) in
    let free = not_banned _ _ (sym c.keeps_out.ensures ∙ c.in_default-keeps_out.is) in
    let put = c.rewrite.ensures in
    record {
      linked = put.linked;
      listed = listed_after g.E.Extract.order_of set c.rewrite.new.set put.same _ _ put.entries put.lists
          (listed_replaced g.E.Extract.has_key g.E.Extract.order_of g.met.E.Extract.order_total (alone (records_in set)) c.args.handle c.args.row linked.sound.keys linked.apart (is_there name.row) c.self.invariant.listed free.0);
    }

pub returns-clause-old : goal.returns-clause-old
returns-clause-old g c =
    let name = named_at c.self.inside.set c.self.inside.slots.items c.self.invariant.linked c.args.handle c.in-Some.node (c.node_at.ensures.found c.in-Some.node c.in-Some.is) in
    ap (λ s. row_of s.entries c.args.handle) (sym c.self.view_is) ∙ (name.row ∙ (sym (ap (option_map (λ (e : Entry _). e.row)) name.has) ∙ c.rewrite.ensures.old))

pub returns-clause-allowed : goal.returns-clause-allowed
returns-clause-allowed g c =
    let order = g.E.Extract.order_of in
    let name = named_at c.self.inside.set c.self.inside.slots.items c.self.invariant.linked c.args.handle c.in-Some.node (c.node_at.ensures.found c.in-Some.node c.in-Some.is) in
    ap (λ r. row_kept_out order r c.args.handle c.args.row c.args.limit) (sym c.self.view_is)
    ∙ (kept_out_live order (records_in c.self.inside.set) c.args.handle c.args.row c.args.limit name.entry.row name.row ∙ (sym c.keeps_out.ensures ∙ c.in_default-keeps_out.is))

pub returns-clause-ok : goal.returns-clause-ok
returns-clause-ok g c max writes =
    let put = c.rewrite.ensures in
    seen_replaced g.E.Extract.order_of c.self.inside.set c.rewrite.new.set c.args.handle c.args.row max writes put.same put.entries put.lists
    ∙ ap (λ r. with_replaced g.E.Extract.order_of (state_of r max writes) c.args.handle c.args.row) c.self.view_is
