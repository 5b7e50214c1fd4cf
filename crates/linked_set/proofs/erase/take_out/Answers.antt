use Rattle.any_index.specs.Keyed.{marks_of}
use Rattle.std.proofs.Common.{sym, subst}
use Rattle.linked_set.specs.Seen.{IsLinked}
use Rattle.linked_set.proofs.Left.{entries_shrunk, lists_shrunk, IsLinked_shrunk}
use Rattle.linked_set.proofs.erase.take_out.Goals as goal

pub returns-clause-linked : goal.returns-clause-linked
returns-clause-linked g c =
    let out = c.take-entry.ensures in
    subst (λ slots. IsLinked g.E.Extract.has_key g.E.Extract.order_of (marks_of g.E.Extract) c.take-entry.new.self slots) (sym c.release.ensures.items)
    (IsLinked_shrunk g.E.Extract.has_key g.E.Extract.order_of (marks_of g.E.Extract) c.args.set.now c.take-entry.new.self c.args.slots.now.items c.requires.linked c.args.node c.requires.node c.take-entry.result out.value out.taken
    out.kept.filed.sound out.kept.filed.keyed out.kept.filed.unique)

pub returns-clause-entries : goal.returns-clause-entries
returns-clause-entries g c =
    let out = c.take-entry.ensures in
    entries_shrunk g.E.Extract.has_key g.E.Extract.order_of (marks_of g.E.Extract) c.args.set.now c.take-entry.new.self c.args.slots.now.items c.requires.linked c.args.node c.requires.node c.take-entry.result out.value out.taken

pub returns-clause-lists : goal.returns-clause-lists
returns-clause-lists g c =
    let out = c.take-entry.ensures in
    lists_shrunk g.E.Extract.has_key g.E.Extract.order_of (marks_of g.E.Extract) c.args.set.now c.take-entry.new.self c.args.slots.now.items c.requires.linked c.args.node c.requires.node c.take-entry.result out.value out.taken
