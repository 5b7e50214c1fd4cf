use Rattle.std.proofs.Common.{◌≡◌, ◌++◌, ◌∷◌, [], ap, sym, ◌∙◌, subst, arith}
use Rattle.node_store.specs.Store.{aged, age_of}
use Rattle.index_set.specs.Set.{store_of, record_of}
use Rattle.node_store.specs.Age.{last_below}
use Rattle.linked_set.proofs.Ages.{left, HasPassed, last_held, fewer_left, none_passed, one_passed, all_passed}
use Rattle.linked_set.proofs.walk.by_age.Goals as goal

pub loop-next-init : goal.loop-next-init
loop-next-init g c =
    let s = store_of (g.S.Nodes.parts c.args.set.now) in
    let f = g.T.OfNode.of (record_of (g.S.Nodes.parts c.args.set.now)) in
    record {
      nodes = λ m e. last_held s c.requires.nodes s.added m (sym (rw c.store-store.ensures at c.newest-next.ensures) ∙ e);
      passed = subst (λ o. HasPassed f s o c.in_ok-met.met.items) (sym (rw c.store-store.ensures at c.newest-next.ensures)) (subst (HasPassed f s (last_below (aged s) s.added)) (sym c.in_ok-met.ensures.items) (none_passed s c.requires.nodes f));
    }

pub loop-next-smaller : goal.loop-next-smaller
loop-next-smaller g c =
    let s = store_of (g.S.Nodes.parts c.args.set.now) in
    let k = age_of s c.in-Some.node in
    let few = fewer_left s c.requires.nodes k in
    let now = ap (left s) (rw c.store-store.ensures at c.older-next.ensures) in
    let was = ap (left s) c.in-Some.is in
    omega (arith, few, now, was)

pub loop-next-preserved : goal.loop-next-preserved
loop-next-preserved g c =
    let s = store_of (g.S.Nodes.parts c.args.set.now) in
    let f = g.T.OfNode.of (record_of (g.S.Nodes.parts c.args.set.now)) in
    let n = c.in-Some.node in
    let met = c.loop-next.met.items in
    let pushed : c.push.new.self.items ≡ met ++ f n ∷ [] = c.in_ok-push.ensures.items ∙ ap (λ h. met ++ h ∷ []) (rw c.store-store.ensures at c.of.ensures) in
    record {
      nodes = λ m e. last_held s c.requires.nodes (age_of s n) m (sym (rw c.store-store.ensures at c.older-next.ensures) ∙ e);
      passed = subst (λ o. HasPassed f s o c.push.new.self.items) (sym (rw c.store-store.ensures at c.older-next.ensures))
          (subst (HasPassed f s (last_below (aged s) (age_of s n))) (sym pushed) (one_passed s c.requires.nodes f c.loop-next.next met n (c.loop-next.invariant.nodes n c.in-Some.is) c.in-Some.is c.loop-next.invariant.passed));
    }

pub returns : goal.returns
returns g c =
    c.reverse.ensures.items ∙ all_passed (store_of (g.S.Nodes.parts c.args.set.now)) c.requires.nodes (g.T.OfNode.of (record_of (g.S.Nodes.parts c.args.set.now))) c.loop-next.next c.loop-next.met.items c.in_default.is c.loop-next.invariant.passed
