use Rattle.std.proofs.Common.{Some, ap, ◌∙◌, sym, refl, subst}
use Rattle.std.proofs.lemmas.Option.{same_Some}
use Rattle.any_index.specs.Keyed.{marks_of}
use Rattle.node_store.specs.Store.{IsNodeOf}
use Rattle.index_set.specs.Lists.{ban_from}
use Rattle.index_set.specs.Set.{store_of, keys_of, specs_of, record_of, lists_of}
use Rattle.index_set.specs.declared.parts.Parts.{Parts}
use Rattle.index_set.proofs.Changing.{filed_but}
use Rattle.index_set.proofs.Held.{has_record}
use Rattle.index_set.proofs.Keys.{except_some}
use Rattle.index_set.proofs.Kept.{agrees_where, free_beside}
use Rattle.index_set.proofs.set.IndexSet.bans.Goals as goal

pub changed_by-changed-requires-clause-node : goal.changed_by-changed-requires-clause-node
changed_by-changed-requires-clause-node g c = subst (λ (p : Parts _ _). IsNodeOf (store_of p) c.args.n) (sym c.self.view_is) c.requires

pub bans_changed-requires-clause-except : goal.bans_changed-requires-clause-except
bans_changed-requires-clause-except g c m e =
    subst (IsNodeOf (store_of c.self.inside.parts)) (same_Some c.args.n m e) (subst (λ (p : Parts _ _). IsNodeOf (store_of p) c.args.n) (sym c.self.view_is) c.requires)

pub bans_changed-requires-clause-keyed : goal.bans_changed-requires-clause-keyed
bans_changed-requires-clause-keyed g c =
    except_some g.E.Extract.order_of (marks_of g.E.Extract) c.self.inside.parts c.args.n (filed_but g.E.Extract c.self.inside.parts c.self.invariant c.args.n).keyed

pub bans_changed-requires-clause-unique : goal.bans_changed-requires-clause-unique
bans_changed-requires-clause-unique g c = (filed_but g.E.Extract c.self.inside.parts c.self.invariant c.args.n).unique

pub bans_changed-requires-clause-free : goal.bans_changed-requires-clause-free
bans_changed-requires-clause-free g c =
    let set = c.self.inside.parts in
    let order = g.E.Extract.order_of in
    let was = c.self.invariant in
    let is = subst (λ (p : Parts _ _). IsNodeOf (store_of p) c.args.n) (sym c.self.view_is) c.requires in
    let p = has_record (store_of set) c.args.n is in
    free_beside order g.met.E.Extract.order_total set was.filed.sound c.args.n p.0 c.args.r.now p.1 c.changed_by-changed.result
    (agrees_where order set c.changed_by-changed.result c.args.r.now p.0 (λ j. c.changed_by-changed.ensures p.0 j p.1)) (record_of set) (λ m ne. refl) (was.held.each c.args.n is) was.filed.unique

pub returns : goal.returns
returns g c =
    c.bans_changed.ensures ∙ ap (λ (p : Parts _ _). ban_from (g.E.Extract.order_of (keys_of p)) (record_of p) (lists_of p) (Some c.args.n) c.args.r.now 0 (specs_of p)) c.self.view_is
