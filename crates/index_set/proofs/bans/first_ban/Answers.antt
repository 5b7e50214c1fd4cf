use Rattle.std.proofs.Common.{◌∙◌, ap, sym, subst}
use Rattle.std.specs.Prelude.{IsTrue}
use Rattle.node_store.specs.ByNode.{record_of, columns_in}
use Rattle.container_model.specs.State.{has_key_kind}
use Rattle.any_index.specs.Spelled.{kind_of}
use Rattle.any_index.specs.Stored.{IsIn}
use Rattle.any_index.specs.Keyed.{marks_of, HasItsKey, IsKeyedExcept, HasOneOfEachKey}
use Rattle.index_set.proofs.Frame.{key_here}
use Rattle.index_set.proofs.Reading.{some_spec}
use Rattle.index_set.proofs.Uniques.{unique_here}
use Rattle.index_set.proofs.Banning.{same_at, ban_here, ban_later, ban_not_here}
use Rattle.index_set.proofs.bans.first_ban.Goals as goal
use Rattle.index_set.proofs.bans.first_ban.Goals.{then-specs-index+then-has+in_default, else-specs-index, else-specs-index-via-then-specs-index+else-has, else-specs-index-via-else-specs-index}

pub same_as-requires : goal.same_as-requires
same_as-requires g c = record {
  kind =
      subst (λ z. IsTrue (has_key_kind z)) (sym (ap kind_of c.index-indices-index.is ∙ (c.requires.placed.each c.loop-index.index some_spec c.index-indices-index.result c.loop-index-test.true).kind))
      (c.requires.keys.unique c.loop-index.index some_spec c.loop-index-test.true c.if-specs-index.true);
  excepted = c.requires.except;
  sound = subst (λ i. IsIn i c.args.store.now) (sym c.index-indices-index.is) (c.requires.placed.each c.loop-index.index some_spec c.index-indices-index.result c.loop-index-test.true).sound;
  key =
      subst (λ i. HasItsKey (g.E.Extract.has_key c.args.keys.now) i) (sym c.index-indices-index.is)
      (key_here (g.E.Extract.has_key c.args.keys.now) (columns_in c.args.store.now) c.args.specs.now c.args.indices.now c.loop-index.index some_spec c.index-indices-index.result c.loop-index-test.true c.requires.keys c.requires.placed);
  keyed =
      subst (λ i. IsKeyedExcept (g.E.Extract.order_of c.args.keys.now) (marks_of g.E.Extract c.args.keys.now) c.args.store.now i c.args.except) (sym c.index-indices-index.is)
      (c.requires.keyed.each c.loop-index.index some_spec c.index-indices-index.result c.loop-index-test.true);
  unique =
      subst (λ i. HasOneOfEachKey (g.E.Extract.order_of c.args.keys.now) c.args.store.now i c.args.except) (sym c.index-indices-index.is)
      (unique_here (g.E.Extract.order_of c.args.keys.now) c.args.store.now c.args.specs.now c.args.indices.now c.args.except c.requires.placed c.requires.unique c.loop-index.index some_spec c.index-indices-index.result c.loop-index-test.true (c.requires.keys.unique c.loop-index.index some_spec c.loop-index-test.true c.if-specs-index.true) c.if-specs-index.true);
}

pub returns-in-Some : goal.returns-in-Some
returns-in-Some g c =
    let answer = same_at (g.E.Extract.order_of c.args.keys.now) (record_of c.args.store.now) (columns_in c.args.store.now) c.args.specs.now c.args.indices.now c.args.except c.args.r.now c.requires.placed c.loop-index.index some_spec c.index-indices-index.result c.loop-index-test.true (c.requires.keys.unique c.loop-index.index some_spec c.loop-index-test.true c.if-specs-index.true) c.index-indices-index.is c.same_as.result c.same_as.ensures in
    sym (ban_here (g.E.Extract.order_of c.args.keys.now) (record_of c.args.store.now) (columns_in c.args.store.now) c.args.specs.now c.args.indices.now c.args.except c.args.r.now c.loop-index.index some_spec c.in-Some.by c.loop-index-test.true c.if-specs-index.true (sym answer ∙ c.in-Some.is))
    ∙ c.loop-index.invariant

pub loop-index-preserved : goal.loop-index-preserved
loop-index-preserved g c = elim c.if-specs-index.branch [
  | then-specs-index+then-has+in_default w ↦
      let answer = same_at (g.E.Extract.order_of c.args.keys.now) (record_of c.args.store.now) (columns_in c.args.store.now) c.args.specs.now c.args.indices.now c.args.except c.args.r.now c.requires.placed c.loop-index.index some_spec w.index-indices-index.result c.loop-index-test.true (c.requires.keys.unique c.loop-index.index some_spec c.loop-index-test.true w.if-specs-index.true) w.index-indices-index.is w.same_as.result w.same_as.ensures in
      sym (ban_later (g.E.Extract.order_of c.args.keys.now) (record_of c.args.store.now) (columns_in c.args.store.now) c.args.specs.now c.args.indices.now c.args.except c.args.r.now c.loop-index.index some_spec c.loop-index-test.true (sym answer ∙ w.in_default.is))
      ∙ c.loop-index.invariant
  | else-specs-index o ↦ elim o.else-specs-index.branch [
    | else-specs-index-via-then-specs-index+else-has w ↦
        sym (ban_later (g.E.Extract.order_of c.args.keys.now) (record_of c.args.store.now) (columns_in c.args.store.now) c.args.specs.now c.args.indices.now c.args.except c.args.r.now c.loop-index.index some_spec c.loop-index-test.true
        (c.requires.free.each c.loop-index.index some_spec c.loop-index-test.true (sym w.has.ensures ∙ w.if-has.false) w.if-specs-index.true))
        ∙ c.loop-index.invariant
    | else-specs-index-via-else-specs-index w ↦
        sym (ban_not_here (g.E.Extract.order_of c.args.keys.now) (record_of c.args.store.now) (columns_in c.args.store.now) c.args.specs.now c.args.indices.now c.args.except c.args.r.now c.loop-index.index some_spec c.loop-index-test.true w.if-specs-index.false)
        ∙ c.loop-index.invariant
  ]
]
