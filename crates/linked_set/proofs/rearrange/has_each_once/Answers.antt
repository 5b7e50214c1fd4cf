use Rattle.std.proofs.Common.{◌≡◌, length, sym, ◌∙◌, ne_eqb}
use Rattle.index_set.specs.Set.{store_of, contents}
use Rattle.container_model.specs.Find.{is_live}
use Rattle.container_model.specs.Sequence.{has_each_once}
use Rattle.linked_set.specs.Linked.{entries_in}
use Rattle.linked_set.specs.Seen.{seen}
use Rattle.linked_set.proofs.Contents.{length-entries}
use Rattle.linked_set.proofs.Rearranged.{each_once, not_as_many, not_apart, once_if}
use Rattle.linked_set.proofs.rearrange.has_each_once.Goals as goal
use Rattle.list_model.proofs.Lists.{each_passes}

pub returns-then-handles-len : goal.returns-then-handles-len
returns-then-handles-len g c =
    let as_many : length (entries_in (contents (g.S.Nodes.parts c.args.set.now))) ≡ c.len.result = length-entries (store_of (g.S.Nodes.parts c.args.set.now)) c.requires.linked.sound.nodes ∙ sym (rw c.store.ensures at c.len.ensures.len) in
    sym (not_as_many (entries_in (contents (g.S.Nodes.parts c.args.set.now))) c.args.handles.now (ne_eqb _ _ (λ same. c.if-handles-len.true (same ∙ as_many))))

pub returns : goal.returns
returns g c =
    let entries = entries_in (contents (g.S.Nodes.parts c.args.set.now)) in
    let as_many : length entries ≡ c.len.result = length-entries (store_of (g.S.Nodes.parts c.args.set.now)) c.requires.linked.sound.nodes ∙ sym (rw c.store.ensures at c.len.ensures.len) in
    once_if (has_each_once entries c.args.handles.now) c.are_apart.result c.are_apart.ensures.apart c.are_apart.ensures.twice
    (each_once entries c.args.handles.now c.requires.linked.apart (each_passes (λ h. is_live (seen (g.S.Nodes.parts c.args.set.now) 0 0) h) c.args.handles.now c.requires.live) (c.if-handles-len.false ∙ sym as_many))
    (not_apart entries c.args.handles.now c.requires.linked.apart)
