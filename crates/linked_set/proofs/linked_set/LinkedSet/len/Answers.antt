use Rattle.std.proofs.Common.{◌∙◌, ap, sym, length}
use Rattle.index_set.specs.Set.{store_of}
use Rattle.linked_set.proofs.Contents.{length-entries}
use Rattle.linked_set.proofs.linked_set.LinkedSet.len.Goals as goal

pub returns : goal.returns
returns g c = (rw c.store.ensures at c.len.ensures.len) ∙ (sym (length-entries (store_of c.self.inside.set) c.self.invariant.linked.sound.nodes) ∙ ap (λ s. length s.entries) c.self.view_is)
