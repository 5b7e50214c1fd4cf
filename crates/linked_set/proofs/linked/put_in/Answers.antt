use Rattle.any_index.specs.Keyed.{marks_of}
use Rattle.std.proofs.Common.{◌∙◌, Result, Ok, Err, sym, ap, subst}
use Rattle.std.specs.Prelude.{OnErr}
use Rattle.node_store.proofs.ByNode.{added_kept}
use Rattle.slot_table.specs.Slots.{first_free}
use Rattle.index_set.specs.Set.{store_of, keys_of, specs_of, record_of, lists_of}
use Rattle.index_set.proofs.Members.{nodes_held}
use Rattle.linked_set.specs.Linked.{handles_in}
use Rattle.linked_set.specs.Seen.{IsLinked}
use Rattle.linked_set.proofs.Contents.{entries_kept, handles_kept}
use Rattle.linked_set.proofs.Joined.{IsLinked_kept, IsLinked_grown, allowed_record, entries_grown, lists_grown}
use Rattle.linked_set.proofs.linked.put_in.Goals as goal

-- what holds anyhow holds of an error
on_err : {A B P : Type 0} (r : Result A B) → P → OnErr r P
on_err (Ok a) p = tt
on_err (Err b) p = p

pub put-requires : goal.put-requires
put-requires g c =
    let set = c.args.set.now in
    let linked = c.requires.linked in
    let allowed = allowed_record (g.E.Extract.order_of (keys_of set).keys) (specs_of set) (store_of set) (lists_of set) c.args.entry linked.sound.nodes linked.apart (nodes_held set linked.sound) c.requires.allowed in
    record { count = c.requires.count; place = c.requires.place; allowed = allowed; known = c.requires.known }

pub returns-clause-linked : goal.returns-clause-linked
returns-clause-linked g c =
    let order = g.E.Extract.order_of in
    let slot = c.requires.slot ∙ ap first_free (sym c.reserve_one.ensures.items) in
    let put = c.in_ok-node.ensures in
    subst (λ slots. IsLinked g.E.Extract.has_key order (marks_of g.E.Extract) c.put.new.self slots) (sym c.take.ensures.items)
    (IsLinked_grown g.E.Extract.has_key order (marks_of g.E.Extract) c.args.set.now c.put.new.self c.reserve_one.new.self.items c.args.at c.in_ok-node.node c.args.entry
    (subst (λ slots. IsLinked g.E.Extract.has_key order (marks_of g.E.Extract) c.args.set.now slots) (sym c.reserve_one.ensures.items) c.requires.linked) put.put slot put.kept.filed.sound put.kept.filed.keyed put.kept.filed.unique)

pub returns-clause-entries : goal.returns-clause-entries
returns-clause-entries g c =
    entries_grown g.E.Extract.has_key g.E.Extract.order_of (marks_of g.E.Extract) c.args.set.now c.put.new.self c.args.slots.now.items c.args.at c.in_ok-node.node c.args.entry c.requires.linked c.in_ok-node.ensures.put c.requires.slot

pub returns-clause-lists : goal.returns-clause-lists
returns-clause-lists g c =
    lists_grown g.E.Extract.has_key g.E.Extract.order_of (marks_of g.E.Extract) c.args.set.now c.put.new.self c.args.slots.now.items c.args.at c.in_ok-node.node c.args.entry c.requires.linked c.in_ok-node.ensures.put c.requires.slot

pub returns-in_err-node-clause-linked : goal.returns-in_err-node-clause-linked
returns-in_err-node-clause-linked g c =
    let same = c.in_err-node.ensures.unchanged in
    let kept = c.in_err-node.ensures.kept in
    subst (λ slots. IsLinked g.E.Extract.has_key g.E.Extract.order_of (marks_of g.E.Extract) c.put.new.self slots) (sym c.reserve_one.ensures.items)
    (IsLinked_kept g.E.Extract.has_key g.E.Extract.order_of (marks_of g.E.Extract) c.args.set.now c.put.new.self c.args.slots.now.items same.same same.contents same.lists kept.filed.sound kept.filed.keyed c.requires.linked)

pub returns-in_err-node-clause-same_entries : goal.returns-in_err-node-clause-same_entries
returns-in_err-node-clause-same_entries g c =
    on_err c.from_residual.result (entries_kept (store_of c.args.set.now) (store_of c.put.new.self) c.in_err-node.ensures.unchanged.contents)

pub returns-in_err-node-clause-same_lists : goal.returns-in_err-node-clause-same_lists
returns-in_err-node-clause-same_lists g c =
    let same = c.in_err-node.ensures.unchanged in
    on_err c.from_residual.result
    (handles_kept (store_of c.args.set.now) (store_of c.put.new.self) (lists_of c.put.new.self) same.contents ∙ ap (handles_in (record_of c.args.set.now)) same.lists)

pub returns-in_err-node-clause-same_count : goal.returns-in_err-node-clause-same_count
returns-in_err-node-clause-same_count g c = on_err c.from_residual.result (added_kept (store_of c.args.set.now) (store_of c.put.new.self) c.in_err-node.ensures.unchanged.contents)
