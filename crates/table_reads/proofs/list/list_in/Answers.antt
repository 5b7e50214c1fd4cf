use Rattle.std.proofs.Common.{◌≡◌, sym, ap, subst, ◌∙◌}
use Rattle.container_model.specs.State.{list_at}
use Rattle.table_reads.specs.Found.{AreLive}
use Rattle.table_reads.specs.Reads.{show_handles}
use Rattle.table_reads.proofs.Told.{list_is_in}
use Rattle.table_reads.proofs.list.list_in.Goals as goal

pub returns : goal.returns
returns c =
    let t = c.args.records.now in
    let is : c.in_ok-handles.handles.items ≡ list_at t.records.lists c.args.index =
    c.in_ok-handles.ensures.ok ∙ ap (λ s. list_at s.lists c.args.index) c.container.ensures.value in
    (subst (AreLive t) (sym is) (list_is_in t c.args.index), ap (show_handles t) (sym is))
