use Rattle.std.proofs.Common.{refl, Some, sym, ap, ◌∙◌, subst}
use Rattle.node_store.specs.Store.{IsNodeOf}
use Rattle.index_set.specs.Changed.{differs}
use Rattle.index_set.specs.Lists.{ban_from}
use Rattle.index_set.specs.Set.{store_of, keys_of, specs_of, lists_of, record_of}
use Rattle.index_set.specs.Writes.{IsRewritten}
use Rattle.index_set.specs.declared.parts.Parts.{Parts}
use Rattle.index_set.proofs.Changing.{filed_written, lists_held, settled, settled_kept, beside_written}
use Rattle.index_set.proofs.Kept.{agrees_where}
use Rattle.index_set.proofs.MarksKept.{same_marks}
use Rattle.index_set.proofs.set.IndexSet.replace.Goals as goal

pub changed_by-changed-requires-clause-node : goal.changed_by-changed-requires-clause-node
changed_by-changed-requires-clause-node g c = subst (λ (p : Parts _ _). IsNodeOf (store_of p) c.args.n) (sym c.self.view_is) c.requires.node

pub get_mut-requires : goal.get_mut-requires
get_mut-requires g c = subst (λ (p : Parts _ _). IsNodeOf (store_of p) c.args.n) (sym c.self.view_is) c.requires.node

pub settle_changed-requires-clause-sound : goal.settle_changed-requires-clause-sound
settle_changed-requires-clause-sound g c =
    let is = subst (λ (p : Parts _ _). IsNodeOf (store_of p) c.args.n) (sym c.self.view_is) c.requires.node in
    (filed_written g.E.Extract c.self.inside.parts c.self.invariant c.args.n is c.replace-old.new.dest _ refl).sound

pub settle_changed-requires-clause-held : goal.settle_changed-requires-clause-held
settle_changed-requires-clause-held g c =
    let is = subst (λ (p : Parts _ _). IsNodeOf (store_of p) c.args.n) (sym c.self.view_is) c.requires.node in
    lists_held g.E.Extract c.self.inside.parts c.self.invariant c.args.n is c.replace-old.new.dest _ refl

pub settle_changed-requires-clause-keyed : goal.settle_changed-requires-clause-keyed
settle_changed-requires-clause-keyed g c =
    let is = subst (λ (p : Parts _ _). IsNodeOf (store_of p) c.args.n) (sym c.self.view_is) c.requires.node in
    (filed_written g.E.Extract c.self.inside.parts c.self.invariant c.args.n is c.replace-old.new.dest _ refl).keyed

pub settle_changed-requires-clause-beside : goal.settle_changed-requires-clause-beside
settle_changed-requires-clause-beside g c =
    let set = c.self.inside.parts in
    let order = g.E.Extract.order_of in
    let before = c.get_mut.result.now in
    let had = c.get_mut.ensures.value in
    let is = subst (λ (p : Parts _ _). IsNodeOf (store_of p) c.args.n) (sym c.self.view_is) c.requires.node in
    beside_written g.E.Extract set c.self.invariant c.args.n is c.replace-old.new.dest _ refl g.met.E.Extract.order_total before had c.changed_by-changed.result
    (agrees_where order set c.changed_by-changed.result c.replace-old.new.dest before
    (λ j. c.changed_by-changed.ensures before j had ∙ ap (λ v. differs (order (keys_of set)) (specs_of set) v before j) (sym c.replace-old.ensures.after)))
    (same_marks g.E.Extract.has_key g.E.Extract.order_of g.E.Extract.hash_of g.E.Extract.digest_of g.met.E.Extract.order_total g.met.E.Extract.same_hash g.met.E.Extract.digest_order)

pub invariant_of-self : goal.invariant_of-self
invariant_of-self g c =
    let set = c.self.inside.parts in
    let order = g.E.Extract.order_of in
    let made = c.settle_changed.ensures in
    let is = subst (λ (p : Parts _ _). IsNodeOf (store_of p) c.args.n) (sym c.self.view_is) c.requires.node in
    settled_kept g.E.Extract set c.self.invariant c.args.n is c.replace-old.new.dest _ refl g.met.E.Extract.order_total c.settle_changed.new.self made.sound made.same made.keyed made.contents made.lists
    (ap (λ v. ban_from (order (keys_of set)) (record_of set) (lists_of set) (Some c.args.n) v 0 (specs_of set)) c.replace-old.ensures.after
    ∙ (ap (λ (p : Parts _ _). ban_from (order (keys_of p)) (record_of p) (lists_of p) (Some c.args.n) c.args.value 0 (specs_of p)) c.self.view_is ∙ c.requires.allowed))

pub returns-clause-kept : goal.returns-clause-kept
returns-clause-kept g c = invariant_of-self g c

pub returns-clause-written : goal.returns-clause-written
returns-clause-written g c =
    let set = c.self.inside.parts in
    let made = c.settle_changed.ensures in
    let is = subst (λ (p : Parts _ _). IsNodeOf (store_of p) c.args.n) (sym c.self.view_is) c.requires.node in
    subst (λ v. IsRewritten g.E.Extract.order_of c.args.self.now c.settle_changed.new.self c.args.n v) c.replace-old.ensures.after
    (subst (λ (p : Parts _ _). IsRewritten g.E.Extract.order_of p c.settle_changed.new.self c.args.n c.replace-old.new.dest) c.self.view_is
    (settled g.E.Extract set c.self.invariant c.args.n is c.replace-old.new.dest _ refl g.met.E.Extract.order_total c.settle_changed.new.self made.sound made.same made.keyed made.contents made.lists))
