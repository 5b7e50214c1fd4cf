use Rattle.std.proofs.Common.{◌∙◌, ap, sym, subst, Option, None, Some, drop, ◌+◌}
use Rattle.std.specs.Prelude.{IsTrue}
use Rattle.std.specs.Option.{option_or}
use Rattle.node_store.specs.ByNode.{columns_in, record_of}
use Rattle.container_model.specs.State.{has_key_kind}
use Rattle.any_index.specs.Spelled.{kind_of}
use Rattle.any_index.specs.Stored.{IsIn}
use Rattle.any_index.specs.Keyed.{marks_of, HasItsKey, IsKeyedExcept, HasOneOfEachKey}
use Rattle.index_set.proofs.Frame.{key_here}
use Rattle.index_set.proofs.Reading.{some_spec}
use Rattle.index_set.proofs.Uniques.{unique_here}
use Rattle.index_set.specs.Indices.{lists_in}
use Rattle.index_set.specs.Places.{place_from}
use Rattle.index_set.specs.declared.places.FreePlace.{FreePlace}
use Rattle.index_set.proofs.Banning.{same_at, ban_here, ban_later, ban_not_here}
use Rattle.index_set.proofs.FreePlaces.{last_at, place_later, place_not_here}
use Rattle.index_set.proofs.bans.free_place.Goals as goal
use Rattle.index_set.proofs.bans.free_place.Goals.{then-specs-index+in-Ok, else-specs-index}

pub free_place-requires : goal.free_place-requires
free_place-requires g c = record {
  kind =
      subst (λ z. IsTrue (has_key_kind z)) (sym (ap kind_of c.index-indices-index.is ∙ (c.requires.placed.each c.loop-index.index some_spec c.index-indices-index.result c.loop-index-test.true).kind))
      (c.requires.keys.unique c.loop-index.index some_spec c.loop-index-test.true c.if-specs-index.true);
  excepted = λ m e. cc;
  sound = subst (λ i. IsIn i c.args.store.now) (sym c.index-indices-index.is) (c.requires.placed.each c.loop-index.index some_spec c.index-indices-index.result c.loop-index-test.true).sound;
  key =
      subst (λ i. HasItsKey (g.E.Extract.has_key c.args.keys.now) i) (sym c.index-indices-index.is)
      (key_here (g.E.Extract.has_key c.args.keys.now) (columns_in c.args.store.now) c.args.specs.now c.args.indices.now c.loop-index.index some_spec c.index-indices-index.result c.loop-index-test.true c.requires.keys c.requires.placed);
  keyed =
      subst (λ i. IsKeyedExcept (g.E.Extract.order_of c.args.keys.now) (marks_of g.E.Extract c.args.keys.now) c.args.store.now i None) (sym c.index-indices-index.is)
      (c.requires.keyed.each c.loop-index.index some_spec c.index-indices-index.result c.loop-index-test.true);
  unique =
      subst (λ i. HasOneOfEachKey (g.E.Extract.order_of c.args.keys.now) c.args.store.now i None) (sym c.index-indices-index.is)
      (unique_here (g.E.Extract.order_of c.args.keys.now) c.args.store.now c.args.specs.now c.args.indices.now None c.requires.placed c.requires.unique c.loop-index.index some_spec c.index-indices-index.result c.loop-index-test.true (c.requires.keys.unique c.loop-index.index some_spec c.loop-index-test.true c.if-specs-index.true) c.if-specs-index.true);
}

pub returns-in-Err-clause-taken : goal.returns-in-Err-clause-taken
returns-in-Err-clause-taken g c =
    let answer = same_at (g.E.Extract.order_of c.args.keys.now) (record_of c.args.store.now) (columns_in c.args.store.now) c.args.specs.now c.args.indices.now None c.args.r.now c.requires.placed c.loop-index.index some_spec c.index-indices-index.result c.loop-index-test.true (c.requires.keys.unique c.loop-index.index some_spec c.loop-index-test.true c.if-specs-index.true) c.index-indices-index.is (Some c.in-Err.by) (sym c.in-Err.ensures.taken) in
    sym c.loop-index.invariant.ban
    ∙ ban_here (g.E.Extract.order_of c.args.keys.now) (record_of c.args.store.now) (columns_in c.args.store.now) c.args.specs.now c.args.indices.now None c.args.r.now c.loop-index.index some_spec c.in-Err.by c.loop-index-test.true c.if-specs-index.true (sym answer)

pub loop-index-preserved : goal.loop-index-preserved
loop-index-preserved g c =
    let order = g.E.Extract.order_of c.args.keys.now in
    let records = record_of c.args.store.now in
    let cs = columns_in c.args.store.now in
    let specs = c.args.specs.now in
    let is = c.args.indices.now in
    let k = c.loop-index.index in
    let lt = c.loop-index-test.true in
    let later = λ (place : Option FreePlace). option_or place (place_from order records (lists_in cs is) c.args.r.now (k + 1) (drop (k + 1) specs)) in
    elim c.if-specs-index.branch [
      | then-specs-index+in-Ok w ↦
          let has = c.requires.keys.unique k some_spec lt w.if-specs-index.true in
          record {
            ban =
                sym (ban_later order records cs specs is None c.args.r.now k some_spec lt
                (sym (same_at order records cs specs is None c.args.r.now c.requires.placed k some_spec w.index-indices-index.result lt has w.index-indices-index.is None (sym w.in-Ok.ensures.free))))
                ∙ c.loop-index.invariant.ban;
            place =
                ap later (w.place-is ∙ (w.or-place.ensures ∙ ap (option_or c.loop-index.place) w.behind.ensures))
                ∙ place_later order records (lists_in cs is) c.args.r.now specs c.loop-index.place k some_spec w.in-Ok.last lt w.if-specs-index.true
                (last_at order records cs specs is c.args.r.now c.requires.placed k some_spec w.index-indices-index.result lt has w.index-indices-index.is w.in-Ok.last w.in-Ok.ensures.place)
                ∙ c.loop-index.invariant.place;
          }
      | else-specs-index w ↦ record {
        ban = sym (ban_not_here order records cs specs is None c.args.r.now k some_spec lt w.if-specs-index.false) ∙ c.loop-index.invariant.ban;
        place = ap later w.place-is ∙ place_not_here order records (lists_in cs is) c.args.r.now specs c.loop-index.place k some_spec lt w.if-specs-index.false ∙ c.loop-index.invariant.place;
      }
    ]
