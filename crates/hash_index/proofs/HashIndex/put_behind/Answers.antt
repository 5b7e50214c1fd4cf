use Rattle.std.proofs.Common.{rules, ◌≡◌, ◌+◌, ◌*◌, ◌≤◌, slice_get, get_or, Some, None, refl, sym, ap, ◌∙◌, subst, arith}
use Rattle.node_store.specs.Column.{IsNode}
use Rattle.node_store.specs.ByNode.{column_of}
use Rattle.hash_index.specs.Spelled.{all_of, heads_of}
use Rattle.hash_index.proofs.Heads.{slice_first}
use Rattle.hash_index.proofs.Untagged.{tagged_node, untagged_node}
use Rattle.hash_index.proofs.Spelling.{held_node, has_neighbours}
use Rattle.hash_index.proofs.Changes.{head_there, stands_held, behind_stands, joined_oldest, behind_same, behind_sound, behind_moved}
use Rattle.hash_index.proofs.Aged.{Spells_contents}
use Rattle.hash_index.proofs.HashIndex.put_behind.Goals as goal

pub link-after-requires : goal.link-after-requires
link-after-requires g c =
    let i = c.args.self.now in
    let cs = column_of c.args.store.now in
    let b = c.chain-chain.result in
    let within = c.chain-chain.ensures.within in
    let at : slice_get (all_of i) b ≡ Some c.args.head = ap (slice_get (all_of i)) c.chain-chain.ensures.is ∙ c.requires.head in
    let began : get_or (heads_of i) b None ≡ Some c.args.first = sym (slice_first (heads_of i) (all_of i) b refl c.args.head at) ∙ c.requires.first in
    let held = stands_held cs i b c.args.first c.args.at c.requires.put.chain within began (behind_stands _ c.args.at c.args.n c.args.up c.requires.at) in
    held_node cs i _ c.args.at c.requires.put.chain held

pub set_next-requires : goal.set_next-requires
set_next-requires g c = λ m e.
    let same : c.args.at ≡ m = cc in
    c.set_link.ensures.put.nodes m (subst (IsNode (column_of c.args.store.now c.args.self.now.col)) same (record { block = c.link-after.result; is = c.link-after.ensures }))

pub set_prev-requires : goal.set_prev-requires
set_prev-requires g c = λ m e.
    let i = c.args.self.now in
    let cs = column_of c.args.store.now in
    let b = c.chain-chain.result in
    let within = c.chain-chain.ensures.within in
    let at : slice_get (all_of i) b ≡ Some c.args.head = ap (slice_get (all_of i)) c.chain-chain.ensures.is ∙ c.requires.head in
    let began : get_or (heads_of i) b None ≡ Some c.args.first = sym (slice_first (heads_of i) (all_of i) b refl c.args.head at) ∙ c.requires.first in
    let held = stands_held cs i b c.args.first c.args.at c.requires.put.chain within began (behind_stands _ c.args.at c.args.n c.args.up c.requires.at) in
    let near = has_neighbours cs i _ c.args.at c.link-after.result c.requires.put.chain held c.link-after.ensures in
    tagged_node _ m (c.set_next.ensures.ends.nodes m (untagged_node _ m (c.set_link.ensures.put.nodes m (near.after m e))))

pub set_up-requires : goal.set_up-requires
set_up-requires g c = λ m e.
    let i = c.args.self.now in
    let cs = column_of c.args.store.now in
    let b = c.chain-chain.result in
    let within = c.chain-chain.ensures.within in
    let at : slice_get (all_of i) b ≡ Some c.args.head = ap (slice_get (all_of i)) c.chain-chain.ensures.is ∙ c.requires.head in
    let began : get_or (heads_of i) b None ≡ Some c.args.first = sym (slice_first (heads_of i) (all_of i) b refl c.args.head at) ∙ c.requires.first in
    let held = stands_held cs i b c.args.first c.args.at c.requires.put.chain within began (behind_stands _ c.args.at c.args.n c.args.up c.requires.at) in
    let same : c.args.first ≡ m = cc in
    let there = head_there c.args.store.now i b c.args.head within at c.requires.put.chain c.args.first c.requires.first in
    let node = subst (IsNode (cs i.col)) same there in
    tagged_node _ m (c.set_prev.ensures.ends.nodes m (c.set_next.ensures.ends.nodes m (untagged_node _ m (c.set_link.ensures.put.nodes m node))))

pub returns : goal.returns
returns g c =
    let i = c.args.self.now in
    let cs = column_of c.args.store.now in
    let b = c.chain-chain.result in
    let within = c.chain-chain.ensures.within in
    let at : slice_get (all_of i) b ≡ Some c.args.head = ap (slice_get (all_of i)) c.chain-chain.ensures.is ∙ c.requires.head in
    let began : get_or (heads_of i) b None ≡ Some c.args.first = sym (slice_first (heads_of i) (all_of i) b refl c.args.head at) ∙ c.requires.first in
    let held = stands_held cs i b c.args.first c.args.at c.requires.put.chain within began (behind_stands _ c.args.at c.args.n c.args.up c.requires.at) in
    let load : (i.len + 1) * 4 ≤ c.set.new.self.len = omega (arith, c.requires.put.room, c.set.ensures.len) in
    let begin = head_there c.args.store.now i b c.args.head within at c.requires.put.chain c.args.first c.requires.first in
    record {
      chain = Spells_contents c.args.store.now c.set_up.new.store _ _ _ (c.set_up.ensures.contents ∙ (c.set_prev.ensures.contents ∙ (c.set_next.ensures.contents ∙ c.set_link.ensures.contents))) (behind_sound cs (column_of c.set_up.new.store) _ _ (column_of c.set_prev.new.store i.col) i _ c.args.n c.args.first c.args.at b c.args.hash c.link-after.result c.args.up c.joined.result c.requires.put.chain within (record { col = refl; level = refl; count = c.set.ensures.len; heads = c.set.ensures.heads }) (c.joined.ensures.first ∙ c.requires.first) c.joined.ensures.followed refl load c.requires.put.new c.chain-chain.ensures.is began c.requires.at c.link-after.ensures c.set_link.ensures.put c.set_next.ensures.ends c.set_next.ensures.same c.set_prev.ensures.ends c.set_prev.ensures.same c.set_up.ensures.links c.set_up.ensures.same (c.set_up.ensures.up c.args.first refl) (λ m. c.set_up.ensures.tags m ∙ (c.set_prev.ensures.tags m ∙ c.set_next.ensures.tags m)) (joined_oldest cs i b c.args.head c.joined.result c.args.first begin.block within at c.requires.first begin.is c.requires.put.chain c.joined.ensures.oldest) c.requires.later);
      list = behind_moved cs (column_of c.set_up.new.store) _ _ (column_of c.set_prev.new.store i.col) i _ c.args.n c.args.first c.args.at b c.args.hash c.link-after.result c.args.up c.joined.result c.requires.put.chain within (record { col = refl; level = refl; count = c.set.ensures.len; heads = c.set.ensures.heads }) (c.joined.ensures.first ∙ c.requires.first) c.joined.ensures.followed refl load c.requires.put.new c.chain-chain.ensures.is began c.requires.at c.link-after.ensures c.set_link.ensures.put c.set_next.ensures.ends c.set_next.ensures.same c.set_prev.ensures.ends c.set_prev.ensures.same c.set_up.ensures.links c.set_up.ensures.same (c.set_up.ensures.up c.args.first refl) (λ m. c.set_up.ensures.tags m ∙ (c.set_prev.ensures.tags m ∙ c.set_next.ensures.tags m)) (joined_oldest cs i b c.args.head c.joined.result c.args.first begin.block within at c.requires.first begin.is c.requires.put.chain c.joined.ensures.oldest) c.requires.later;
      tag = search rules;
      tags = search rules;
      same = λ m ne lacks. behind_same cs i b c.args.first c.args.at c.link-after.result c.requires.put.chain within began (behind_stands _ c.args.at c.args.n c.args.up c.requires.at) c.link-after.ensures m lacks (column_of c.set_up.new.store i.col) _ _ _ c.set_up.ensures.same c.set_prev.ensures.same c.set_next.ensures.same ∙ c.set_link.ensures.put.others m ne;
      len = search rules;
      buckets = search rules;
      rest = search rules;
    }
