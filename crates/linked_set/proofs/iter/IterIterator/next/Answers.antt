use Rattle.std.proofs.Common.{◌≡◌, [], ◌∙◌, length, ap, sym, subst, rules}
use Rattle.list_model.specs.Walk.{next}
use Rattle.node_store.specs.ByNode.{same_node}
use Rattle.node_store.specs.Nodes.{Holds}
use Rattle.linked_set.proofs.Rows.{over, held, there, end_there, ended, stepped, told_apart, walks_on}
use Rattle.linked_set.proofs.iter.IterIterator.next.Goals as goal

pub returns-in_default-clause-steps : goal.returns-in_default-clause-steps
returns-in_default-clause-steps g c =
    let w = c.self.inside in
    let none : c.args.self.now ≡ [] = sym c.self.view_is ∙ over w.set.now w.index w.next w.end c.self.invariant c.in_default.is in
    (none, none)

pub returns-then-is_node-clause-steps : goal.returns-then-is_node-clause-steps
returns-then-is_node-clause-steps g c =
    let w = c.self.inside in
    let none : c.args.self.now ≡ [] = sym c.self.view_is ∙ ended w.set.now w.index w.next w.end c.self.invariant c.in-Some.node c.in-Some.is (c.is_node.ensures.0 c.if-is_node.true) in
    (none, none)

pub is_node-requires-clause-other : goal.is_node-requires-clause-other
is_node-requires-clause-other g c = λ m e. let w = c.self.inside in rw c.store-store.ensures (end_there w.set.now w.index w.next w.end c.self.invariant c.in-Some.node c.in-Some.is m e)

pub is_node-requires-clause-node : goal.is_node-requires-clause-node
is_node-requires-clause-node g c = let w = c.self.inside in rw c.store-store.ensures (there w.set.now w.index w.next w.end c.self.invariant c.in-Some.node c.in-Some.is)

pub next-self-inside-requires-clause-held : goal.next-self-inside-requires-clause-held
next-self-inside-requires-clause-held g c =
    let w = c.self.inside in
    subst (λ l. Holds l c.in-Some.node) (sym c.at.ensures.list) (held w.set.now w.index w.next w.end c.self.invariant c.in-Some.node c.in-Some.is)

pub get-entry-requires : goal.get-entry-requires
get-entry-requires g c = let w = c.self.inside in rw c.store-store.ensures (there w.set.now w.index w.next w.end c.self.invariant c.in-Some.node c.in-Some.is)

pub returns-clause-steps : goal.returns-clause-steps
returns-clause-steps g c =
    let w = c.self.inside in
    sym c.self.view_is
    ∙ stepped w.set.now w.index w.next w.end c.self.invariant c.in-Some.node c.in-Some.is c.get-entry.result.now c.next-self-inside.result (told_apart c.is_node.ensures.1 c.if-is_node.false) (rw c.store-store.ensures at c.get-entry.ensures) (c.next-self-inside.ensures ∙ ap (next (same_node c.in-Some.node)) c.at.ensures.list)

pub returns-clause-goes : goal.returns-clause-goes
returns-clause-goes g c =
    let w = c.self.inside in
    let step =
    sym c.self.view_is
    ∙ stepped w.set.now w.index w.next w.end c.self.invariant c.in-Some.node c.in-Some.is c.get-entry.result.now c.next-self-inside.result (told_apart c.is_node.ensures.1 c.if-is_node.false) (rw c.store-store.ensures at c.get-entry.ensures) (c.next-self-inside.ensures ∙ ap (next (same_node c.in-Some.node)) c.at.ensures.list) in
    let shorter = ap length step in
    search rules

pub invariant_of-self : goal.invariant_of-self
invariant_of-self g c =
    let w = c.self.inside in
    walks_on w.set.now w.index w.next w.end c.self.invariant c.in-Some.node c.in-Some.is c.next-self-inside.result (told_apart c.is_node.ensures.1 c.if-is_node.false) (c.next-self-inside.ensures ∙ ap (next (same_node c.in-Some.node)) c.at.ensures.list)
