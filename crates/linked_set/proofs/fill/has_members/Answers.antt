use Rattle.std.proofs.Common.{sym, ◌∙◌}
use Rattle.index_set.specs.Set.{contents}
use Rattle.container_model.proofs.Moved.{each_once_is}
use Rattle.linked_set.specs.Linked.{entries_in}
use Rattle.linked_set.proofs.Restored.{each_ok, members_live, members_once}
use Rattle.linked_set.proofs.fill.has_members.Goals as goal

pub returns-then-not-all_live : goal.returns-then-not-all_live
returns-then-not-all_live g c = (
  λ e. cc,
  λ members.
      let all = members_live (entries_in (contents c.args.set.now)) c.args.order.now c.requires.apart members in
      let bad = sym c.if-not-all_live.true ∙ (c.all_live.ensures ∙ all) in cc,
)

pub returns : goal.returns
returns g c =
    let entries = entries_in (contents c.args.set.now) in
    each_ok _ _ (λ has is. (λ e. each_once_is entries c.args.order.now c.requires.apart (sym is ∙ e), λ members. is ∙ members_once entries c.args.order.now c.requires.apart members))
    c.has_each_once.result c.has_each_once.ensures
