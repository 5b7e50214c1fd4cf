-- Laws of the list that a chain spells.
use Rattle.std.proofs.Common.{◌≤◌, ◌<◌, take, drop, ◌≡◌, ℕ, zero, suc, ◌+◌, ◌-◌, List, [], ◌∷◌, ◌++◌, length, Option, Some, None, option_and_then, refl, sym, ap, ◌∙◌, subst, arith, length-append, append_assoc}
use Rattle.std.proofs.lemmas.List.{append-nil, take-append-drop, take_all, drop_all}
use Rattle.node_store.specs.declared.Node.{Node}
use Rattle.node_store.specs.declared.Link.{Link}
use Rattle.node_store.specs.Column.{Column, IsNode}
use Rattle.node_store.specs.Nodes.{IsSameAt, first_or, last_or}
use Rattle.node_store.specs.Store.{Store}
use Rattle.node_store.specs.ByNode.{column_of, contents}
use Rattle.node_store.proofs.ByNode.{node_of_column, IsNodeOf_kept}
use Rattle.node_store.proofs.NodeLists.{last_or-append}
use Rattle.seq_index.specs.declared.SeqIndex.{SeqIndex}
use Rattle.seq_index.specs.Links.{Runs, AreNodes, AreNodesOf, end_beside}
use Rattle.seq_index.specs.Spelled.{Spells, spelled, follow, following}
use Rattle.seq_index.proofs.Runs.{Runs-same, Runs-at, Runs-node, AreNodes-last, AreNodes-first}

follow-runs : (c : Column) (p : Option Node) (xs : List Node) → Runs c p xs None → follow c (first_or xs None) (length xs) ≡ xs
follow-runs c p [] h = refl
follow-runs c p (x ∷ xs) h =
    let e : following c x ≡ first_or xs None = ap (λ (o : Option Link). option_and_then (λ l. l.b) o) h.0 in
    ap (λ (o : Option Node). x ∷ follow c o (length xs)) e ∙ ap (λ (z : List Node). x ∷ z) (follow-runs c (Some x) xs h.1)

-- what a chain spells is its list
pub spelled_is : (cs : ℕ → Column) (i : SeqIndex) (xs : List Node) → Spells cs i xs → spelled cs i ≡ xs
unfolding spelled
spelled_is cs i xs h = ap (λ (o : Option Node). follow (cs i.col) o i.len) h.first ∙ ap (λ (k : ℕ). follow (cs i.col) (first_or xs None) k) h.len ∙ follow-runs (cs i.col) None xs h.runs

-- what a chain spells depends on its own nodes in its own column alone
pub Spells_same : (cs ds : ℕ → Column) (i : SeqIndex) (xs : List Node) → IsSameAt (cs i.col) (ds i.col) xs → Spells cs i xs → Spells ds i xs
Spells_same cs ds i xs s h = record { runs = Runs-same (cs i.col) (ds i.col) None xs None s h.runs; first = h.first; last = h.last; distinct = h.distinct; len = h.len; fits = h.fits }

end_beside-last : (xs : List Node) (x : Node) (end new_end : Option Node) → end_beside (last_or xs (Some x)) end new_end ≡ end
end_beside-last [] x end new_end = refl
end_beside-last (y ∷ xs) x end new_end = end_beside-last xs y end new_end

pub first-insert : (xs : List Node) (n : Node) (ys : List Node) → end_beside (last_or xs None) (first_or (xs ++ ys) None) (Some n) ≡ first_or (xs ++ n ∷ ys) None
first-insert [] n ys = refl
first-insert (x ∷ xs) n ys = end_beside-last xs x (Some x) (Some n)

pub last-insert : (xs : List Node) (n : Node) (ys : List Node) → end_beside (first_or ys None) (last_or (xs ++ ys) None) (Some n) ≡ last_or (xs ++ n ∷ ys) None
last-insert xs n [] = sym (last_or-append xs (n ∷ []) None)
last-insert xs n (y ∷ ys) = last_or-append xs (y ∷ ys) None ∙ sym (last_or-append xs (n ∷ y ∷ ys) None)

pub first-remove : (xs : List Node) (n : Node) (ys : List Node) → end_beside (last_or xs None) (first_or (xs ++ n ∷ ys) None) (first_or ys None) ≡ first_or (xs ++ ys) None
first-remove [] n ys = refl
first-remove (x ∷ xs) n ys = end_beside-last xs x (Some x) (first_or ys None)

pub last-remove : (xs : List Node) (n : Node) (ys : List Node) → end_beside (first_or ys None) (last_or (xs ++ n ∷ ys) None) (last_or xs None) ≡ last_or (xs ++ ys) None
last-remove xs n [] = sym (last_or-append xs [] None)
last-remove xs n (y ∷ ys) = last_or-append xs (n ∷ y ∷ ys) None ∙ sym (last_or-append xs (y ∷ ys) None)

pub length-insert : (xs : List Node) (n : Node) (ys : List Node) → length (xs ++ ys) + 1 ≡ length (xs ++ n ∷ ys)
length-insert xs n ys = omega (arith, length-append xs ys, length-append xs (n ∷ ys))

pub length-remove : (xs : List Node) (n : Node) (ys : List Node) → length (xs ++ n ∷ ys) - 1 ≡ length (xs ++ ys)
length-remove xs n ys = omega (arith, length-append xs ys, length-append xs (n ∷ ys))

-- what the block of a node of a chain says
pub record AtNode (c : Column) (xs ys : List Node) (link : Link) : Type 0 where
  pub a : link.a ≡ last_or xs None
  pub b : link.b ≡ first_or ys None
  pub before : AreNodes c (last_or xs None)
  pub after : AreNodes c (first_or ys None)

pub at_node : (cs : ℕ → Column) (i : SeqIndex) (xs : List Node) (n : Node) (ys : List Node) (link : Link) → Spells cs i (xs ++ n ∷ ys) → cs i.col n ≡ Some link → AtNode (cs i.col) xs ys link
at_node cs i xs n ys link h is =
    let at = Runs-at (cs i.col) None xs n ys None h.runs in
    record {
      a = cc (at, is);
      b = cc (at, is);
      before = AreNodes-last (cs i.col) None xs (n ∷ ys) None h.runs;
      after = AreNodes-first (cs i.col) None (xs ++ n ∷ []) ys None (rw append_assoc h.runs);
    }

pub AreNodes-chain_last : (cs : ℕ → Column) (i : SeqIndex) (xs : List Node) → Spells cs i xs → AreNodes (cs i.col) i.last
AreNodes-chain_last cs i xs h m e =
    let runs : Runs (cs i.col) None (xs ++ []) None = rw append-nil h.runs in
    AreNodes-last (cs i.col) None xs [] None runs m (sym h.last ∙ e)

-- a list at a place where it has a node
pub record CutAt (xs : List Node) (k : ℕ) (m : Node) : Type 0 where
  pub rest : List Node
  pub whole : xs ≡ take k xs ++ m ∷ rest
  pub dropped : drop (suc k) xs ≡ rest
  pub taken : take (suc k) xs ≡ take k xs ++ m ∷ []

pub cut_at : (xs : List Node) (k : ℕ) (m : Node) → first_or (drop k xs) None ≡ Some m → CutAt xs k m
cut_at [] zero m e = cc
cut_at [] (suc k) m e = cc
cut_at (x ∷ xs) zero m e =
    let same : x ≡ m = cc in
    record { rest = xs; whole = ap (λ (z : Node). z ∷ xs) same; dropped = refl; taken = ap (λ (z : Node). z ∷ []) same }
cut_at (x ∷ xs) (suc k) m e =
    let r = cut_at xs k m e in
    record { rest = r.rest; whole = ap (λ (z : List Node). x ∷ z) r.whole; dropped = r.dropped; taken = ap (λ (z : List Node). x ∷ z) r.taken }

-- a step along the chain
pub record Walked (xs : List Node) (k : ℕ) (m : Node) (after : Option Node) : Type 0 where
  pub before_is : Some m ≡ last_or (take (k + 1) xs) None
  pub after_is : after ≡ first_or (drop (k + 1) xs) None

pub walked : (cs : ℕ → Column) (i : SeqIndex) (xs : List Node) (k : ℕ) (m : Node) (link : Link) → Spells cs i xs → first_or (drop k xs) None ≡ Some m → cs i.col m ≡ Some link → Walked xs k m link.b
walked cs i xs k m link s e l =
    let c = cut_at xs k m e in
    let at = Runs-at (cs i.col) None (take k xs) m c.rest None (subst (λ (z : List Node). Runs (cs i.col) None z None) c.whole s.runs) in
    let b : link.b ≡ first_or c.rest None = cc (at, l) in
    let next : k + 1 ≡ suc k = omega arith in
    record {
      before_is = sym (ap (λ (z : ℕ). last_or (take z xs) None) next ∙ ap (λ (z : List Node). last_or z None) c.taken ∙ last_or-append (take k xs) (m ∷ []) None);
      after_is = b ∙ ap (λ (z : List Node). first_or z None) (sym c.dropped) ∙ ap (λ (z : ℕ). first_or (drop z xs) None) (sym next);
    }

pub walk_node : (cs : ℕ → Column) (i : SeqIndex) (xs : List Node) (k : ℕ) (m : Node) → Spells cs i xs → first_or (drop k xs) None ≡ Some m → IsNode (cs i.col) m
walk_node cs i xs k m s e =
    let c = cut_at xs k m e in
    Runs-node (cs i.col) None (take k xs) m c.rest None (subst (λ (z : List Node). Runs (cs i.col) None z None) c.whole s.runs)

-- no node stands at a place only past the end
pub no_more : (xs : List Node) (k : ℕ) → first_or (drop k xs) None ≡ None → length xs ≤ k
no_more [] k e = omega arith
no_more (x ∷ xs) zero e = cc
no_more (x ∷ xs) (suc k) e = let r = no_more xs k e in omega arith

pub place_nodes : (cs : ℕ → Column) (i : SeqIndex) (xs : List Node) (k : ℕ) → Spells cs i xs → AreNodes (cs i.col) (last_or (take k xs) None) × AreNodes (cs i.col) (first_or (drop k xs) None)
place_nodes cs i xs k s =
    let runs = subst (λ (z : List Node). Runs (cs i.col) None z None) (sym (take-append-drop k xs)) s.runs in
    (AreNodes-last (cs i.col) None (take k xs) (drop k xs) None runs, AreNodes-first (cs i.col) None (take k xs) (drop k xs) None runs)

module _ {R : Type 0} where
  -- a node beside a place is one of the store
  pub node_before : (s : Store R) (i : SeqIndex) (xs : List Node) (k : ℕ) (o : Option Node) → Spells (column_of s) i xs → o ≡ last_or (take k xs) None → AreNodesOf s o
  node_before s i xs k o h e = λ m is. node_of_column s i.col m ((place_nodes (column_of s) i xs k h).0 m (sym e ∙ is))

  pub node_after : (s : Store R) (i : SeqIndex) (xs : List Node) (k : ℕ) (o : Option Node) → Spells (column_of s) i xs → o ≡ first_or (drop k xs) None → AreNodesOf s o
  node_after s i xs k o h e = λ m is. node_of_column s i.col m ((place_nodes (column_of s) i xs k h).1 m (sym e ∙ is))

  pub AreNodesOf_kept : (old new : Store R) (o : Option Node) → contents new ≡ contents old → AreNodesOf old o → AreNodesOf new o
  AreNodesOf_kept old new o e h = λ m is. IsNodeOf_kept old new m e (h m is)

-- ---- a walk back from the end

node_at : (xs : List Node) (k : ℕ) → k < length xs → (y : Node) × (first_or (drop k xs) None ≡ Some y)
node_at [] k h = absurd (omega (arith, h))
node_at (x ∷ xs) zero h = (x, refl)
node_at (x ∷ xs) (suc k) h = node_at xs k (omega (arith, h))

last_taken : (xs : List Node) (k : ℕ) (y : Node) → first_or (drop k xs) None ≡ Some y → last_or (take (suc k) xs) None ≡ Some y
last_taken xs k y e =
    let c = cut_at xs k y e in
    ap (λ (z : List Node). last_or z None) c.taken ∙ last_or-append (take k xs) (y ∷ []) None

-- where the first nodes end with one, it stands at the last of their places
last_stands : (xs : List Node) (k : ℕ) (m : Node) → k < length xs → last_or (take (suc k) xs) None ≡ Some m → first_or (drop k xs) None ≡ Some m
last_stands xs k m lt e =
    let y = node_at xs k lt in
    y.1 ∙ sym (last_taken xs k y.0 y.1) ∙ e

-- the first nodes are at least one, and end with this one
pub record Ending (xs : List Node) (at : ℕ) (m : Node) : Type 0 where
  pub place : ℕ
  pub at_is : at ≡ suc place
  pub stands : first_or (drop place xs) None ≡ Some m

pub ending : (xs : List Node) (at : ℕ) (m : Node) → 0 < at → at ≤ length xs → last_or (take at xs) None ≡ Some m → Ending xs at m
ending xs zero m pos le e = absurd (omega (arith, pos))
ending xs (suc k) m pos le e = record { place = k; at_is = refl; stands = last_stands xs k m (omega (arith, le)) e }

-- a step back along the chain
pub record WalkedBack (xs : List Node) (at : ℕ) (m : Node) (before : Option Node) : Type 0 where
  pub before_is : before ≡ last_or (take (at - 1) xs) None
  pub after_is : Some m ≡ first_or (drop (at - 1) xs) None

pub walked_back : (cs : ℕ → Column) (i : SeqIndex) (xs : List Node) (at : ℕ) (m : Node) (link : Link) → Spells cs i xs → Ending xs at m → cs i.col m ≡ Some link → WalkedBack xs at m link.a
walked_back cs i xs at m link s h l =
    let c = cut_at xs h.place m h.stands in
    let here = Runs-at (cs i.col) None (take h.place xs) m c.rest None (subst (λ (z : List Node). Runs (cs i.col) None z None) c.whole s.runs) in
    let a : link.a ≡ last_or (take h.place xs) None = cc (here, l) in
    let prev : at - 1 ≡ h.place = omega (arith, h.at_is) in
    record {
      before_is = a ∙ ap (λ (z : ℕ). last_or (take z xs) None) (sym prev);
      after_is = sym (ap (λ (z : ℕ). first_or (drop z xs) None) prev ∙ h.stands);
    }

-- some node stands before each place but the first
pub some_before : (xs : List Node) (at : ℕ) → 0 < at → at ≤ length xs → last_or (take at xs) None ≡ None → ⊥
some_before xs zero pos le e = omega (arith, pos)
some_before xs (suc k) pos le e =
    let y = node_at xs k (omega (arith, le)) in
    let s = last_taken xs k y.0 y.1 in
    cc

-- the whole list, and nothing after it
pub record AtEnd (cs : ℕ → Column) (i : SeqIndex) (xs : List Node) : Type 0 where
  pub within : i.len ≤ length xs
  pub before : i.last ≡ last_or (take i.len xs) None
  pub after : None ≡ first_or (drop i.len xs) None

pub at_end : (cs : ℕ → Column) (i : SeqIndex) (xs : List Node) → Spells cs i xs → AtEnd cs i xs
at_end cs i xs h = record {
  within = omega (arith, h.len);
  before = h.last ∙ sym (ap (λ (k : ℕ). last_or (take k xs) None) h.len ∙ ap (λ (z : List Node). last_or z None) (take_all (length xs) xs (omega arith)));
  after = sym (ap (λ (k : ℕ). first_or (drop k xs) None) h.len ∙ ap (λ (z : List Node). first_or z None) (drop_all (length xs) xs (omega arith)));
}
