-- A sequence that is built from a list, node by node.
use Rattle.std.proofs.Common.{◌≡◌, ℕ, zero, suc, ◌+◌, ◌<◌, ◌≤◌, List, [], ◌∷◌, ◌++◌, length, get_or, take, drop, Some, None, refl, sym, ap, ◌∙◌, subst, arith}
use Rattle.std.proofs.lemmas.List.{length-take-le}
use Rattle.node_store.specs.declared.Node.{Node}
use Rattle.node_store.specs.Column.{Column, IsNode}
use Rattle.node_store.specs.Nodes.{Lacks, AllNodes, IsDistinct, first_or}
use Rattle.node_store.proofs.NodeLists.{IsDistinct-parts, AreApart-head}
use Rattle.seq_index.specs.declared.SeqIndex.{SeqIndex}
use Rattle.seq_index.specs.Spelled.{Spells, spelled}
use Rattle.seq_index.proofs.ChainLists.{cut_at, spelled_is}

item_at : (ns : List Node) (k : ℕ) (d : Node) → k < length ns → first_or (drop k ns) None ≡ Some (get_or ns k d)
item_at [] k d h = absurd (omega (arith, h))
item_at (x ∷ ns) zero d h = refl
item_at (x ∷ ns) (suc k) d h = item_at ns k d (omega (arith, h))

pub all_at : (c : Column) (ns : List Node) (k : ℕ) (d : Node) → k < length ns → AllNodes c ns → IsNode c (get_or ns k d)
all_at c [] k d h all = absurd (omega (arith, h))
all_at c (x ∷ ns) zero d h all = all.0
all_at c (x ∷ ns) (suc k) d h all = all_at c ns k d (omega (arith, h)) all.1

-- the next node is none of those before it, which end with it from then on
pub record Coming (ns : List Node) (k : ℕ) (n : Node) : Type 0 where
  pub lacks : Lacks (take k ns) n
  pub taken : take (k + 1) ns ≡ take k ns ++ n ∷ []

pub coming : (ns : List Node) (k : ℕ) (d : Node) → k < length ns → IsDistinct ns → Coming ns k (get_or ns k d)
coming ns k d h dist =
    let c = cut_at ns k (get_or ns k d) (item_at ns k d h) in
    let next : k + 1 ≡ suc k = omega arith in
    record {
      lacks = AreApart-head (take k ns) c.rest (get_or ns k d) (IsDistinct-parts (take k ns) (get_or ns k d ∷ c.rest) (subst IsDistinct c.whole dist)).apart;
      taken = ap (λ (z : ℕ). take z ns) next ∙ c.taken;
    }

pub lacks_coming : (cs : ℕ → Column) (i : SeqIndex) (ns : List Node) (k : ℕ) (n : Node) → Spells cs i (take k ns) → Coming ns k n → Lacks (spelled cs i) n
lacks_coming cs i ns k n h m = subst (λ (z : List Node). Lacks z n) (sym (spelled_is cs i (take k ns) h)) m.lacks

pub spelled_coming : (cs ds : ℕ → Column) (i j : SeqIndex) (ns : List Node) (k : ℕ) (n : Node) → Spells cs i (take k ns) → Coming ns k n → Spells ds j (spelled cs i ++ n ∷ []) → Spells ds j (take (k + 1) ns)
spelled_coming cs ds i j ns k n h m s =
    subst (λ (z : List Node). Spells ds j z) (ap (λ (z : List Node). z ++ n ∷ []) (spelled_is cs i (take k ns) h) ∙ sym m.taken) s

pub len_taken : (cs : ℕ → Column) (i : SeqIndex) (ns : List Node) (k : ℕ) → k ≤ length ns → Spells cs i (take k ns) → i.len ≡ k
len_taken cs i ns k h s = s.len ∙ length-take-le k ns h
