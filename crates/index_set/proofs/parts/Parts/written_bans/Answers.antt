use Rattle.any_index.specs.Keyed.{marks_of}
use Rattle.std.proofs.Common.{Some, sym, ap, ◌∙◌, subst}
use Rattle.std.proofs.lemmas.Option.{same_Some}
use Rattle.node_store.specs.Store.{IsNodeOf}
use Rattle.index_set.specs.Lists.{ban_from}
use Rattle.index_set.specs.Set.{store_of, keys_of, specs_of, record_of, lists_of}
use Rattle.index_set.proofs.Keys.{except_some}
use Rattle.index_set.proofs.parts.Parts.written_bans.Goals as goal

pub bans_changed-requires-clause-except : goal.bans_changed-requires-clause-except
bans_changed-requires-clause-except g c m e = subst (IsNodeOf (store_of c.args.self.now)) (same_Some c.args.n m e) c.requires.node

pub bans_changed-requires-clause-keyed : goal.bans_changed-requires-clause-keyed
bans_changed-requires-clause-keyed g c = except_some g.E.Extract.order_of (marks_of g.E.Extract) c.args.self.now c.args.n c.requires.filed.keyed

pub bans_changed-requires-clause-free : goal.bans_changed-requires-clause-free
bans_changed-requires-clause-free g c = c.requires.free c.get.result.now c.get.ensures

pub returns : goal.returns
returns g c r has =
    let set = c.args.self.now in
    c.bans_changed.ensures ∙ ap (λ value. ban_from (g.E.Extract.order_of (keys_of set)) (record_of set) (lists_of set) (Some c.args.n) value 0 (specs_of set)) (same_Some c.get.result.now r (sym c.get.ensures ∙ has))
