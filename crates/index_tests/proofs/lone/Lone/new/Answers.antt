use Rattle.std.proofs.Common.{◌≡◌, cond, rules, ap, sym, subst, ◌∙◌, arith}
use Rattle.std.specs.Prelude.{IsTrue}
use Rattle.container_model.specs.State.{has_key_kind}
use Rattle.node_store.specs.ByNode.{columns_in}
use Rattle.any_index.specs.Spelled.{index_of}
use Rattle.any_index.specs.Keyed.{marks_of, AreKeyed}
use Rattle.index_set.proofs.ByKind.{AreKeyed_none}
use Rattle.index_tests.proofs.lone.Lone.new.Goals as goal

pub invariant_of-result : goal.invariant_of-result
invariant_of-result g c =
    let s = c.new.result in
    let i = c.new-2.result in
    let order = g.E.Extract.order_of c.args.keys in
    let marks = marks_of g.E.Extract c.args.keys in
    let has : IsTrue (g.E.Extract.has_key c.args.keys c.args.number) = search rules in
    let number : index_of i ≡ c.args.number = c.new-2.ensures.index ∙ ap (λ b. cond b c.args.number c.args.column) c.requires.kind in (
      record {
        sound = c.new-2.ensures.sound (columns_in s);
        key = ap (g.E.Extract.has_key c.args.keys) number ∙ (has ∙ sym (ap has_key_kind c.new-2.ensures.kind ∙ c.requires.kind));
        keyed = subst (AreKeyed order marks s i) (sym (c.new-2.ensures.empty (columns_in s))) (AreKeyed_none order marks s i);
        column = omega (arith, c.new-2.ensures.col, c.new.ensures.enough);
      },
      number,
    )
