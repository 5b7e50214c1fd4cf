use Rattle.std.proofs.Common.{◌≡◌, [], ◌∷◌, ◌∙◌, ap, length, sym, rules}
use Rattle.std.proofs.lemmas.List.{length-append}
use Rattle.linked_set.proofs.Rows.{over, there, end_there, end_held, ended, told_apart}
use Rattle.linked_set.proofs.WalksBack.{some_before, there_back, walks_back, stepped_back}
use Rattle.linked_set.proofs.iter.IterDoubleEndedIterator.next_back.Goals as goal

pub returns-in_default-clause-steps : goal.returns-in_default-clause-steps
returns-in_default-clause-steps g c =
    let w = c.self.inside in
    let none : c.args.self.now ≡ [] = sym c.self.view_is ∙ over w.set.now w.index w.next w.end c.self.invariant c.in_default.is in
    (none, none)

pub returns-then-is_node-clause-steps : goal.returns-then-is_node-clause-steps
returns-then-is_node-clause-steps g c =
    let w = c.self.inside in
    let none : c.args.self.now ≡ [] = sym c.self.view_is ∙ ended w.set.now w.index w.next w.end c.self.invariant c.in-Some.first c.in-Some.is (c.is_node.ensures.0 c.if-is_node.true) in
    (none, none)

pub is_node-requires-clause-other : goal.is_node-requires-clause-other
is_node-requires-clause-other g c = λ m e. let w = c.self.inside in rw c.store-store.ensures (end_there w.set.now w.index w.next w.end c.self.invariant c.in-Some.first c.in-Some.is m e)

pub is_node-requires-clause-node : goal.is_node-requires-clause-node
is_node-requires-clause-node g c = let w = c.self.inside in rw c.store-store.ensures (there w.set.now w.index w.next w.end c.self.invariant c.in-Some.first c.in-Some.is)

pub node_before-requires-clause-held : goal.node_before-requires-clause-held
node_before-requires-clause-held g c = let w = c.self.inside in end_held w.set.now w.index w.next w.end c.self.invariant c.in-Some.first c.in-Some.is

pub returns-in_default-node_before-clause-steps : goal.returns-in_default-node_before-clause-steps
returns-in_default-node_before-clause-steps g c =
    let w = c.self.inside in
    absurd (some_before w.set.now w.index w.next w.end c.self.invariant c.in-Some.first c.in-Some.is (told_apart c.is_node.ensures.1 c.if-is_node.false) c.node_before.result c.node_before.ensures c.in_default-node_before.is)

pub get-entry-requires : goal.get-entry-requires
get-entry-requires g c =
    let w = c.self.inside in
    rw c.store-store.ensures (there_back w.set.now w.index w.next w.end c.self.invariant c.in-Some.first c.in-Some.is (told_apart c.is_node.ensures.1 c.if-is_node.false) c.node_before.result c.node_before.ensures c.in-Some-node_before.node c.in-Some-node_before.is)

pub invariant_of-self : goal.invariant_of-self
invariant_of-self g c =
    let w = c.self.inside in
    walks_back w.set.now w.index w.next w.end c.self.invariant c.in-Some.first c.in-Some.is (told_apart c.is_node.ensures.1 c.if-is_node.false) c.node_before.result c.node_before.ensures c.in-Some-node_before.node c.in-Some-node_before.is

pub returns-clause-steps : goal.returns-clause-steps
returns-clause-steps g c =
    let w = c.self.inside in
    sym c.self.view_is
    ∙ stepped_back w.set.now w.index w.next w.end c.self.invariant c.in-Some.first c.in-Some.is (told_apart c.is_node.ensures.1 c.if-is_node.false) c.node_before.result c.node_before.ensures c.in-Some-node_before.node c.in-Some-node_before.is c.get-entry.result.now (rw c.store-store.ensures at c.get-entry.ensures)

pub returns-clause-goes : goal.returns-clause-goes
returns-clause-goes g c =
    let w = c.self.inside in
    let step =
    sym c.self.view_is
    ∙ stepped_back w.set.now w.index w.next w.end c.self.invariant c.in-Some.first c.in-Some.is (told_apart c.is_node.ensures.1 c.if-is_node.false) c.node_before.result c.node_before.ensures c.in-Some-node_before.node c.in-Some-node_before.is c.get-entry.result.now (rw c.store-store.ensures at c.get-entry.ensures) in
    let shorter = ap length step ∙ length-append _ (_ ∷ []) in
    search rules
