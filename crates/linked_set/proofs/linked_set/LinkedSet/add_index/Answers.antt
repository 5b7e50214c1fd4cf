use Rattle.std.proofs.Common.{◌∙◌, ap, sym, subst}
use Rattle.container_model.specs.Indices.{with_index}
use Rattle.linked_set.specs.Asked.{HasKeysWith}
use Rattle.linked_set.specs.Records.{alone, state_of}
use Rattle.linked_set.proofs.Listed.{by_outcome, both_ok, on_refusal, on_success, listed_same, listed_indexed, same_records}
use Rattle.linked_set.proofs.linked_set.LinkedSet.add_index.Goals as goal

pub invariant_of-self : goal.invariant_of-self
invariant_of-self g c =
    let set = c.self.inside.set in
    let new = c.add_index.new.set in
    let has_key = g.E.Extract.has_key in
    let order = g.E.Extract.order_of in
    let linked = c.self.invariant.linked in
    let made = c.add_index.ensures in
    let keys = c.args.keys in
    let asked = subst (λ t. HasKeysWith g.E.Extract.has_key g.E.Extract.order_of g.E.Extract.hash_of (alone t) c.args.spec c.args.keys) (sym c.self.view_is) c.requires.keys in
    record {
      linked = made.linked;
      listed = by_outcome c.add_index.result (both_ok _ _ c.add_index.result made.no_clash made.ok) made.same
          (λ ok. listed_indexed set new has_key order linked.sound.keys c.self.invariant.listed g.met.E.Extract.order_total c.args.spec keys asked.keys asked.orders ok.0 (ok.1 0 0))
          (λ kept. listed_same set new has_key order linked.sound.keys c.self.invariant.listed (kept 0 0));
    }

pub returns-clause-ok : goal.returns-clause-ok
returns-clause-ok g c max writes =
    on_success c.add_index.result c.add_index.ensures.ok (λ made. made max writes ∙ ap (λ r. with_index g.E.Extract.order_of (state_of r max writes) c.args.spec c.args.keys) c.self.view_is)

pub returns-clause-unchanged : goal.returns-clause-unchanged
returns-clause-unchanged g c =
    on_refusal c.add_index.result c.add_index.ensures.same (λ kept. same_records c.self.inside.set c.add_index.new.set (kept 0 0) c.add_index.ensures.count ∙ c.self.view_is)
