use Rattle.std.proofs.Common.{sym, ap, ◌∙◌, subst}
use Rattle.std.proofs.lemmas.Option.{same_Some}
use Rattle.container_model.specs.declared.handle.Entry.{Entry}
use Rattle.index_set.specs.ByRow.{has_by_row, order_by_row, with_row}
use Rattle.index_set.specs.Set.{store_of, with_record, AgreesBeside}
use Rattle.index_set.proofs.Written.{sound_written, node_written, record_written}
use Rattle.index_set.proofs.change.edited.Goals as goal

pub changed_rows-requires-clause-sound : goal.changed_rows-requires-clause-sound
changed_rows-requires-clause-sound g c = sound_written c.args.parts.now c.args.node (with_row c.get_mut.result.now c.apply.new.row) (has_by_row g.E.Extract.has_key) c.requires.sound

pub changed_rows-requires-clause-node : goal.changed_rows-requires-clause-node
changed_rows-requires-clause-node g c = node_written (store_of c.args.parts.now) c.args.node (with_row c.get_mut.result.now c.apply.new.row) c.requires.node

pub returns-clause-written : goal.returns-clause-written
returns-clause-written g c e has =
    let was = same_Some c.get_mut.result.now e (sym c.get_mut.ensures.value ∙ has) in
    let row = c.apply.ensures.row ∙ ap (λ (x : Entry _). g.T.Edit.applied c.args.edit.now x.row) was in
    λ i. with_record c.args.parts.now c.args.node (with_row (was i) (row i))

pub returns-clause-agrees : goal.returns-clause-agrees
returns-clause-agrees g c e has =
    let set = c.args.parts.now in
    let made = with_row c.get_mut.result.now c.apply.new.row in
    let was = same_Some c.get_mut.result.now e (sym c.get_mut.ensures.value ∙ has) in
    let row = c.apply.ensures.row ∙ ap (λ (x : Entry _). g.T.Edit.applied c.args.edit.now x.row) was in
    let agrees : AgreesBeside (order_by_row g.E.Extract.order_of) set c.changed_rows.result made c.get_mut.result.now =
    record { equal = (c.changed_rows.ensures c.get_mut.result.now made (λ before kept. c.replaced.ensures.was c.args.edit.now c.get_mut.result.now.row before c.apply.ensures.edit kept) (record_written (store_of set) c.args.node made c.requires.node)).equal } in
    subst (λ T. T) (λ i. AgreesBeside (order_by_row g.E.Extract.order_of) set c.changed_rows.result (with_row (was i) (row i)) (was i)) agrees

pub returns-clause-edit : goal.returns-clause-edit
returns-clause-edit g c e has =
    c.apply.ensures.edit ∙ ap (λ (x : Entry _). g.T.Edit.after_apply c.args.edit.now x.row) (same_Some c.get_mut.result.now e (sym c.get_mut.ensures.value ∙ has))
