use Rattle.std.proofs.Common.{rules, ◌+◌, ◌*◌, ◌≤◌, get_or, None, subst, refl, sym, ◌∙◌, arith}
use Rattle.node_store.specs.ByNode.{column_of}
use Rattle.hash_index.specs.Spelled.{heads_of, spelled}
use Rattle.hash_index.specs.Rising.{IsBefore}
use Rattle.hash_index.specs.Walks.{rest_of}
use Rattle.hash_index.proofs.Heads.{right_new}
use Rattle.hash_index.proofs.Spelling.{focus_of}
use Rattle.hash_index.proofs.Changes.{put_sound, put_moved, head_node, head_lacks}
use Rattle.node_store.specs.Store.{age_of}
use Rattle.hash_index.proofs.Aged.{Spells_contents}
use Rattle.hash_index.proofs.HashIndex.put_first.Goals as goal

pub set_prev-requires : goal.set_prev-requires
set_prev-requires g c =
    let i = c.args.self.now in
    let first = c.get-head.ensures in
    let at = focus_of (column_of c.args.store.now) i (spelled (column_of c.args.store.now) i) c.chain-chain.result c.chain-chain.ensures.within c.requires.put.chain in
    λ m e. c.set_link.ensures.put.nodes m (head_node _ _ _ _ _ at m (sym first ∙ e))

pub returns : goal.returns
returns g c =
    let i = c.args.self.now in
    let first = c.get-head.ensures in
    let at = focus_of (column_of c.args.store.now) i (spelled (column_of c.args.store.now) i) c.chain-chain.result c.chain-chain.ensures.within c.requires.put.chain in
    let stays = c.set_prev.ensures.same c.args.n (λ e. head_lacks _ _ _ _ _ at c.args.n c.requires.put.new (sym first ∙ e)) ∙ c.set_link.ensures.put.at in
    let right = right_new (column_of c.set_prev.new.store i.col) c.of.result c.args.n c.args.hash c.get-head.result c.args.up c.is_some.result c.of.ensures.first c.of.ensures.mark c.is_some.ensures stays in
    let load : (i.len + 1) * 4 ≤ c.set.new.self.len = omega (arith, c.requires.put.room, c.set.ensures.len) in
    record {
      chain = Spells_contents c.args.store.now c.set_prev.new.store _ _ _ (c.set_prev.ensures.contents ∙ c.set_link.ensures.contents) (put_sound (column_of c.args.store.now) (column_of c.set_prev.new.store) _ i _ c.args.n c.chain-chain.result c.requires.put.chain c.chain-chain.ensures.within c.args.hash c.get-head.result c.args.up c.of.result (record { col = refl; level = refl; count = c.set.ensures.len; heads = c.set.ensures.heads }) c.of.ensures.first right c.of.ensures.plain refl load c.requires.put.new c.chain-chain.ensures.is first (subst (λ b. IsBefore (age_of c.args.store.now) (rest_of (column_of c.args.store.now) i (get_or (heads_of i) b None)) c.args.n c.args.up) (sym c.chain-chain.ensures.is) c.requires.up) c.set_link.ensures.put c.set_prev.ensures.ends c.set_prev.ensures.tags c.set_prev.ensures.same);
      list = put_moved (column_of c.args.store.now) (column_of c.set_prev.new.store) _ i _ c.args.n c.chain-chain.result c.requires.put.chain c.chain-chain.ensures.within c.args.hash c.get-head.result c.args.up c.of.result (record { col = refl; level = refl; count = c.set.ensures.len; heads = c.set.ensures.heads }) c.of.ensures.first right c.of.ensures.plain refl load c.requires.put.new c.chain-chain.ensures.is first (subst (λ b. IsBefore (age_of c.args.store.now) (rest_of (column_of c.args.store.now) i (get_or (heads_of i) b None)) c.args.n c.args.up) (sym c.chain-chain.ensures.is) c.requires.up) c.set_link.ensures.put c.set_prev.ensures.ends c.set_prev.ensures.tags c.set_prev.ensures.same;
      tag = search rules;
      tags = search rules;
      same = λ m ne lacks. c.set_prev.ensures.same m (λ e. head_lacks _ _ _ _ _ at m lacks (sym first ∙ e)) ∙ c.set_link.ensures.put.others m ne;
      len = search rules;
      buckets = search rules;
      rest = search rules;
    }
