use Rattle.std.proofs.Common.{sym, subst, ◌∙◌}
use Rattle.any_index.specs.declared.index.AnyIndex.{AnyIndex}
use Rattle.any_index.specs.Stored.{IsIn}
use Rattle.any_index.proofs.Laws.{node_held}
use Rattle.ord_tree.proofs.Laws.{Holds_at}
use Rattle.node_store.specs.Store.{IsNodeOf}
use Rattle.std.proofs.lemmas.Option.{same_Some}
use Rattle.any_index.specs.declared.index.AnyIndex.TheVariants.{Ranked}
use Rattle.index_tests.proofs.lone.linked.Goals as goal

pub rank_counted-requires : goal.rank_counted-requires
rank_counted-requires g c = record {
  tree = subst (λ (i : AnyIndex). IsIn i c.args.store.now) c.in-Ranked.is c.requires;
  held = Holds_at _ _ c.in-Some.n (sym c.nth_counted-found.ensures.node ∙ c.in-Some.is);
}

pub returns-in-Some : goal.returns-in-Some
returns-in-Some g c n e =
    let tree = subst (λ (i : AnyIndex). IsIn i c.args.store.now) c.in-Ranked.is c.requires in
    subst (IsNodeOf c.args.store.now) (same_Some _ _ e) (node_held c.args.store.now (Ranked c.in-Ranked.tree) c.in-Some.n tree (Holds_at _ _ c.in-Some.n (sym c.nth_counted-found.ensures.node ∙ c.in-Some.is)))
