-- Columns without their tags, and the tags alone.
use Rattle.std.proofs.Common.{◌≡◌, ◌≢◌, ℕ, true, false, ◌==◌, List, [], ◌∷◌, Option, Some, None, refl, sym, ap, ◌∙◌, ⊎_elim}
use Rattle.std.specs.Option.{option_map, option_map_or}
use Rattle.std.proofs.lemmas.Bool.{eqb-true, eq-eqb, ne_eqb}
use Rattle.node_store.specs.declared.Node.{Node}
use Rattle.node_store.specs.declared.Link.{Link}
use Rattle.node_store.specs.Column.{Column, IsPut, IsNode}
use Rattle.node_store.specs.Nodes.{IsSameAt}
use Rattle.node_store.proofs.ByNode.{node_cases}
use Rattle.seq_index.specs.Links.{SetsNext, SetsPrev}
use Rattle.seq_index.proofs.Runs.{SetsNext-some, SetsPrev-some}
use Rattle.hash_index.specs.Chains.{untagged_link, untagged, tag_at, leads, IsIn}

abbrev pub tag_of : Link → ℕ
tag_of l = l.tag

-- what an option of links holds, where it is known without its tag
pub some_untagged : (o : Option Link) (l : Link) → option_map untagged_link o ≡ Some l → (k : Link) × (o ≡ Some k)
some_untagged None l e = absurd (cc)
some_untagged (Some k) l e = (k, refl)

pub tagged_node : (c : Column) (n : Node) → IsNode (untagged c) n → IsNode c n
tagged_node c n h = let t = some_untagged (c n) h.block h.is in record { block = t.0; is = t.1 }

pub untagged_node : (c : Column) (n : Node) → IsNode c n → IsNode (untagged c) n
untagged_node c n h = record { block = untagged_link h.block; is = ap (option_map untagged_link) h.is }

pub put_untagged : (c d : Column) (n : Node) (l : Link) → IsPut c d n l → IsPut (untagged c) (untagged d) n (untagged_link l)
put_untagged c d n l put = record {
  at = ap (option_map untagged_link) put.at;
  others = λ m ne. ap (option_map untagged_link) (put.others m ne);
  nodes = λ m h. untagged_node d m (put.nodes m (tagged_node c m h));
}

-- columns that are the same at each node
pub same_all : (c d : Column) → ((n : Node) → d n ≡ c n) → (xs : List Node) → IsSameAt c d xs
same_all c d same [] = tt
same_all c d same (x ∷ xs) = (same x, same_all c d same xs)

pub same_untagged : (c d : Column) (xs : List Node) → IsSameAt c d xs → IsSameAt (untagged c) (untagged d) xs
same_untagged c d [] h = tt
same_untagged c d (x ∷ xs) h = (ap (option_map untagged_link) h.0, same_untagged c d xs h.1)

pub tag_put : (c d : Column) (n : Node) (l : Link) → IsPut c d n l → tag_at d n ≡ Some l.tag
tag_put c d n l put = ap (option_map tag_of) put.at

pub tag_other : (c d : Column) (n m : Node) (l : Link) → IsPut c d n l → m ≢ n → tag_at d m ≡ tag_at c m
tag_other c d n m l put ne = ap (option_map tag_of) (put.others m ne)

pub tag_is : (c : Column) (n : Node) (l : Link) → c n ≡ Some l → tag_at c n ≡ Some l.tag
tag_is c n l is = ap (option_map tag_of) is

-- a write of links that look alike changes nothing of how the column looks
pub seen_put : {X : Type 0} (look : Option Link → X) (c d : Column) (m : Node) (link l : Link) → c m ≡ Some link → IsPut c d m l → look (Some l) ≡ look (Some link) → (n : Node) → look (d n) ≡ look (c n)
seen_put look c d m link l is put same n =
    ⊎_elim
    (λ e. ap (λ k. look (d k)) e ∙ ap look put.at ∙ same ∙ sym (ap look is) ∙ sym (ap (λ k. look (c k)) e))
    (λ ne. ap look (put.others n ne))
    (node_cases n m)

pub next_untagged : (c d : Column) (m : Node) (link : Link) (next : Option Node) → c m ≡ Some link → IsPut c d m (record link { b = next }) → SetsNext (untagged c) (untagged d) (Some m) next
next_untagged c d m link next is put =
    SetsNext-some (untagged c) (untagged d) m (untagged_link link) next (ap (option_map untagged_link) is) (put_untagged c d m (record link { b = next }) put)

pub prev_untagged : (c d : Column) (m : Node) (link : Link) (prev : Option Node) → c m ≡ Some link → IsPut c d m (record link { a = prev }) → SetsPrev (untagged c) (untagged d) (Some m) prev
prev_untagged c d m link prev is put =
    SetsPrev-some (untagged c) (untagged d) m (untagged_link link) prev (ap (option_map untagged_link) is) (put_untagged c d m (record link { a = prev }) put)

-- ---- the chain that a tag leads to

some_tag : (to : ℕ → ℕ) (b : ℕ) (o : Option ℕ) → option_map_or (λ hash. to hash == b) o false ≡ true → (hash : ℕ) × ((o ≡ Some hash) × (to hash ≡ b))
some_tag to b None e = cc
some_tag to b (Some hash) e = (hash, (refl, eqb-true (to hash) b e))

pub leads_tag : (c : Column) (to : ℕ → ℕ) (b : ℕ) (n : Node) → leads c to b n ≡ true → (hash : ℕ) × ((tag_at c n ≡ Some hash) × (to hash ≡ b))
leads_tag c to b n e = some_tag to b (tag_at c n) e

pub leads_there : (c : Column) (to : ℕ → ℕ) (b : ℕ) (n : Node) (hash : ℕ) → tag_at c n ≡ Some hash → to hash ≡ b → leads c to b n ≡ true
leads_there c to b n hash is e = ap (λ o. option_map_or (λ k. to k == b) o false) is ∙ eq-eqb (to hash) b e

pub leads_elsewhere : (c : Column) (to : ℕ → ℕ) (b : ℕ) (n : Node) (hash : ℕ) → tag_at c n ≡ Some hash → to hash ≢ b → leads c to b n ≡ false
leads_elsewhere c to b n hash is ne = ap (λ o. option_map_or (λ k. to k == b) o false) is ∙ ne_eqb (to hash) b ne

in_some : (to : ℕ → ℕ) (b : ℕ) (o : Option ℕ) → option_map to o ≡ Some b → (hash : ℕ) × ((o ≡ Some hash) × (to hash ≡ b))
in_some to b None e = cc
in_some to b (Some hash) e = let is : to hash ≡ b = cc in (hash, (refl, is))

pub in_tag : (c : Column) (to : ℕ → ℕ) (b : ℕ) (n : Node) → IsIn c to b n → (hash : ℕ) × ((tag_at c n ≡ Some hash) × (to hash ≡ b))
in_tag c to b n h = in_some to b (tag_at c n) h
