use Rattle.any_index.specs.Keyed.{marks_of}
use Rattle.std.proofs.Common.{ap, sym, subst}
use Rattle.linked_set.specs.Records.{IsWhole}
use Rattle.linked_set.proofs.Made.{IsWhole-made, seen_made}
use Rattle.linked_set.proofs.linked_set.LinkedSet.new.Goals as goal

pub invariant_of-result : goal.invariant_of-result
invariant_of-result g c =
    let made = c.in_ok-new.ensures in
    subst (λ slots. IsWhole g.E.Extract.has_key g.E.Extract.order_of (marks_of g.E.Extract) c.in_ok-new.field-0 slots) (sym c.new-2.ensures)
    (IsWhole-made c.in_ok-new.field-0 c.args.most c.args.keys c.args.specs.items made.lists made.empty (ap (λ by. by.keys) made.keys) made.specs made.columns
    g.E.Extract.has_key g.E.Extract.order_of (marks_of g.E.Extract) made.kept.filed.sound made.kept.filed.keyed)

pub returns-clause-made : goal.returns-clause-made
returns-clause-made g c =
    let made = c.in_ok-new.ensures in
    seen_made c.in_ok-new.field-0 c.args.most c.args.keys c.args.specs.items made.lists made.empty (ap (λ by. by.keys) made.keys) made.specs made.columns 0 0
