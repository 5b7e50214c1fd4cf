use Rattle.std.proofs.Common.{◌≡◌, List, sym, ap, refl, ◌∙◌, subst, arith}
use Rattle.std.specs.Prelude.{IsPermutation}
use Rattle.std.proofs.lemmas.Bool.{eqb-true}
use Rattle.std.proofs.lemmas.List.Sorted.{IsPermutation-refl}
use Rattle.node_store.specs.declared.Node.{Node}
use Rattle.node_store.specs.ByNode.{column_of}
use Rattle.node_store.specs.Store.{age_of}
use Rattle.hash_index.specs.Chains.{members}
use Rattle.hash_index.specs.Spelled.{spelled, col_of}
use Rattle.hash_index.proofs.Spelling.{no_nodes}
use Rattle.hash_index.proofs.Growing.{same_sound, first_chain}
use Rattle.hash_index.proofs.Grown.{same_grown}
use Rattle.hash_index.proofs.HashIndex.grow.Goals as goal

pub add_chain-requires-clause-chain : goal.add_chain-requires-clause-chain
add_chain-requires-clause-chain g c = same_sound (column_of c.args.store.now) c.args.self.now c.raise_level.new.self c.raise_level.ensures.same c.requires.chain

pub returns-then-is_empty : goal.returns-then-is_empty
returns-then-is_empty g c =
    let i = c.raise_level.new.self in
    let cs = column_of c.args.store.now in
    let none = eqb-true i.chains.len 0 (sym c.is_empty.ensures ∙ c.if-is_empty.true) in
    let sound = same_sound cs c.args.self.now i c.raise_level.ensures.same c.requires.chain in
    let len : i.len ≡ 0 = omega (arith, sound.load, none) in
    let new = first_chain {ages = age_of c.args.store.now} cs i _ _ none c.none.ensures.first c.push_reserved.ensures.heads len in
    let nodes = no_nodes cs i sound len ∙ sym (no_nodes cs _ new len) in
    same_grown 1 c.args.self.now i _ c.args.store.now c.args.store.now c.requires.chain c.raise_level.ensures.same c.raise_level.ensures.chains (record {
      chain = new;
      list = subst (λ (z : List Node). IsPermutation (spelled cs i) z) nodes (IsPermutation-refl (spelled cs i));
      order = λ b. ap (members (cs (col_of i)) _ b) (sym nodes);
      tags = λ n. refl;
      leads = λ some. absurd (omega (arith, some, none));
      len = refl;
      count = c.push_reserved.ensures.len;
      room = c.push_reserved.ensures.room;
      rest = record { col = refl; index = refl; others = λ k ne. refl; contents = refl };
    })

pub returns-else-is_empty : goal.returns-else-is_empty
returns-else-is_empty g c = same_grown 1 c.args.self.now c.raise_level.new.self _ c.args.store.now _ c.requires.chain c.raise_level.ensures.same c.raise_level.ensures.chains c.add_chain.ensures.grown
