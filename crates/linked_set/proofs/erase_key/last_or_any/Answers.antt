use Rattle.std.proofs.Common.{◌≡◌, None, ap, ◌∙◌, sym, rules}
use Rattle.std.specs.declared.cmp.Ordering.TheVariants.{Equal}
use Rattle.node_store.specs.Store.{IsNodeOf}
use Rattle.any_index.specs.At.{list_in}
use Rattle.index_set.specs.Set.{store_of, keys_of, record_of, kind_at}
use Rattle.list_model.specs.Place.{find_equal}
use Rattle.index_set.specs.ByRow.{probe_by_row}
use Rattle.index_set.proofs.AtIndex.{sought_at}
use Rattle.index_set.proofs.Reading.{has_its_key}
use Rattle.index_set.proofs.Sinking.{by_key_kind}
use Rattle.linked_set.proofs.Places.{some_last}
use Rattle.linked_set.proofs.Sinking.{each_held, side_said}
use Rattle.linked_set.proofs.Sought.{all_told}
use Rattle.linked_set.proofs.erase_key.last_or_any.Goals as goal

pub get-requires : goal.get-requires
get-requires g c = rw c.store.ensures (some_last (IsNodeOf (store_of c.args.set.now)) (list_in c.at.result) (all_told c.at.ensures c.requires.linked.sound) c.in-Some.node (sym c.last.ensures ∙ c.in-Some.is))

pub order_probe-requires-clause-has : goal.order_probe-requires-clause-has
order_probe-requires-clause-has g c = rw c.keys.ensures (has_its_key c.args.set.now c.requires.linked.sound c.args.index c.requires.index c.requires.kind)

pub order_probe-requires-clause-fits : goal.order_probe-requires-clause-fits
order_probe-requires-clause-fits g c =
    let set = c.args.set.now in
    let has = has_its_key set c.requires.linked.sound c.args.index c.requires.index c.requires.kind in
    rw c.keys.ensures (by_key_kind (kind_at set c.args.index) c.requires.kind c.requires.fits (λ hashed. g.met.E.Extract.whole_fits (keys_of set).keys c.args.index c.args.probe.now has (c.requires.whole hashed)))

pub returns-then-eq-clause-found : goal.returns-then-eq-clause-found
returns-then-eq-clause-found g c =
    let set = c.args.set.now in
    let sound = c.requires.linked.sound in
    let node = some_last (IsNodeOf (store_of set)) (list_in c.at.result) (all_told c.at.ensures sound) c.in-Some.node (sym c.last.ensures ∙ c.in-Some.is) in
    let equal : c.order_probe.result ≡ Equal = search rules in (
      each_held set sound c.requires.held c.in-Some.node node c.args.index c.requires.index,
      side_said (record_of set) (λ a. g.E.Extract.probe_order_of (keys_of set).keys c.args.index a.row c.args.probe.now) c.in-Some.node c.get.result.now c.order_probe.result (rw c.store.ensures at c.get.ensures)
          (c.order_probe.ensures ∙ ap (λ by. g.E.Extract.probe_order_of by.keys c.args.index c.get.result.now.row c.args.probe.now) c.keys.ensures) ∙ equal,
    )

pub returns-clause-none : goal.returns-clause-none
returns-clause-none g c = λ none.
    sym (sought_at c.args.set.now c.args.index c.at-2.result c.at-2.ensures c.requires.kind find_equal (probe_by_row g.E.Extract.probe_order_of) c.args.probe.now None (sym (c.find_any.ensures.none none)))
