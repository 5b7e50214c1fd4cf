use Rattle.std.proofs.Common.{◌≡◌, IfOk, OnOk, subst}
use Rattle.container_model.specs.Change.{erased_count, with_key_erased}
use Rattle.indexed.specs.Orders.{to_search}
use Rattle.indexed.proofs.container.Indexed.erase_key.Goals as goal
use Rattle.indexed.proofs.container.Indexed.erase_key.Goals.{in-Ok, in-Err+in-Some-1, in-Err+in-None-1}

pub returns-clause-count : goal.returns-clause-count
returns-clause-count g c =
    let there = subst (λ s. IfOk c.erase_key.result (λ count. count ≡ erased_count (to_search g.R.Fields.row_of) s c.args.tag.0 c.args.search.now)) c.self.view_is c.erase_key.ensures.count in
    elim c.match-erase_key.branch [
      | in-Ok w ↦ rw w.result-is (subst (λ r. IfOk r (λ count. count ≡ erased_count (to_search g.R.Fields.row_of) c.args.self.now c.args.tag.0 c.args.search.now)) w.in-Ok.is there)
      | in-Err+in-Some-1 w ↦ rw w.result-is tt
      | in-Err+in-None-1 w ↦ rw w.result-is tt
    ]

pub returns-clause-ok : goal.returns-clause-ok
returns-clause-ok g c =
    let there = subst (λ s. OnOk c.erase_key.result (c.erase_key.new.self ≡ with_key_erased (to_search g.R.Fields.row_of) s c.args.tag.0 c.args.search.now)) c.self.view_is c.erase_key.ensures.ok in
    elim c.match-erase_key.branch [
      | in-Ok w ↦ rw w.result-is (subst (λ r. OnOk r (c.erase_key.new.self ≡ with_key_erased (to_search g.R.Fields.row_of) c.args.self.now c.args.tag.0 c.args.search.now)) w.in-Ok.is there)
      | in-Err+in-Some-1 w ↦ rw w.result-is tt
      | in-Err+in-None-1 w ↦ rw w.result-is tt
    ]
