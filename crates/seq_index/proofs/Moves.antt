-- Where a node lands that is moved before a place.
use Rattle.std.proofs.Common.{◌≡◌, ◌≢◌, ℕ, zero, suc, ◌+◌, ◌-◌, ◌≤◌, ◌<◌, cond, List, [], ◌∷◌, ◌++◌, length, take, drop, insert, nat_le, Option, Some, None, refl, sym, ap, ◌∙◌, subst, arith, ◌⊎◌, inl, inr, length-append, length-drop}
use Rattle.std.proofs.lemmas.List.{take-append-le, drop-append-le, take-append-drop, append-nil, length-take-le}
use Rattle.std.proofs.lemmas.Bool.{cases_lt}
use Rattle.node_store.specs.declared.Node.{Node}
use Rattle.node_store.specs.Nodes.{Lacks, IsDistinct, first_or, last_or}
use Rattle.node_store.specs.ByNode.{same_node}
use Rattle.node_store.proofs.NodeLists.{IsDistinct-parts, AreApart-head, Lacks-append, last_or-append}
use Rattle.list_model.specs.Walk.{without, relocated}
use Rattle.seq_index.proofs.Walks.{without_at, place_at}
use Rattle.node_store.specs.Column.{Column}
use Rattle.seq_index.specs.declared.SeqIndex.{SeqIndex}
use Rattle.seq_index.specs.Spelled.{Spells, Holds}
use Rattle.seq_index.proofs.Runs.{Lacks-first, Lacks-last}
use Rattle.seq_index.proofs.ChainLists.{length-insert}

-- a node put before place p, counted with the node at place j still in
abbrev place_after : ℕ → ℕ → ℕ
place_after p j = cond (nat_le p j) p (p - 1)

relocated_at : (xs : List Node) (n : Node) (ys : List Node) (p : ℕ) → IsDistinct (xs ++ n ∷ ys) → relocated (same_node n) n p (xs ++ n ∷ ys) ≡ insert (xs ++ ys) (place_after p (length xs)) n
relocated_at xs n ys p h =
    ap (λ (j : ℕ). insert (without (same_node n) (xs ++ n ∷ ys)) (place_after p j) n) (place_at xs n ys h)
    ∙ ap (λ (z : List Node). insert z (place_after p (length xs)) n) (without_at xs n ys h)

-- ---- the four cases, of a place by the place of the node

take_past : (xs : List Node) (n : Node) (ys : List Node) (r : ℕ) → take (length xs + 1 + r) (xs ++ n ∷ ys) ≡ xs ++ n ∷ take r ys
take_past [] n ys r = let e : 0 + 1 + r ≡ suc r = omega arith in ap (λ (k : ℕ). take k (n ∷ ys)) e
take_past (x ∷ xs) n ys r =
    let e : length (x ∷ xs) + 1 + r ≡ suc (length xs + 1 + r) = omega arith in
    ap (λ (k : ℕ). take k (x ∷ (xs ++ n ∷ ys))) e ∙ ap (λ (z : List Node). x ∷ z) (take_past xs n ys r)

drop_past : (xs : List Node) (n : Node) (ys : List Node) (r : ℕ) → drop (length xs + 1 + r) (xs ++ n ∷ ys) ≡ drop r ys
drop_past [] n ys r = let e : 0 + 1 + r ≡ suc r = omega arith in ap (λ (k : ℕ). drop k (n ∷ ys)) e
drop_past (x ∷ xs) n ys r =
    let e : length (x ∷ xs) + 1 + r ≡ suc (length xs + 1 + r) = omega arith in
    ap (λ (k : ℕ). drop k (x ∷ (xs ++ n ∷ ys))) e ∙ drop_past xs n ys r

take_on : (xs ys : List Node) (r : ℕ) → take (length xs + r) (xs ++ ys) ≡ xs ++ take r ys
take_on [] ys r = let e : 0 + r ≡ r = omega arith in ap (λ (k : ℕ). take k ys) e
take_on (x ∷ xs) ys r =
    let e : length (x ∷ xs) + r ≡ suc (length xs + r) = omega arith in
    ap (λ (k : ℕ). take k (x ∷ (xs ++ ys))) e ∙ ap (λ (z : List Node). x ∷ z) (take_on xs ys r)

drop_on : (xs ys : List Node) (r : ℕ) → drop (length xs + r) (xs ++ ys) ≡ drop r ys
drop_on [] ys r = let e : 0 + r ≡ r = omega arith in ap (λ (k : ℕ). drop k ys) e
drop_on (x ∷ xs) ys r =
    let e : length (x ∷ xs) + r ≡ suc (length xs + r) = omega arith in
    ap (λ (k : ℕ). drop k (x ∷ (xs ++ ys))) e ∙ drop_on xs ys r

lacks_take : (xs : List Node) (k : ℕ) (n : Node) → Lacks xs n → Lacks (take k xs) n
lacks_take [] zero n h = tt
lacks_take [] (suc k) n h = tt
lacks_take (x ∷ xs) zero n h = tt
lacks_take (x ∷ xs) (suc k) n h = (h.0, lacks_take xs k n h.1)

lacks_drop : (xs : List Node) (k : ℕ) (n : Node) → Lacks xs n → Lacks (drop k xs) n
lacks_drop [] zero n h = tt
lacks_drop [] (suc k) n h = tt
lacks_drop (x ∷ xs) zero n h = h
lacks_drop (x ∷ xs) (suc k) n h = lacks_drop xs k n h.1

-- past the node the last of a list is that of the rest, where it has one
last_skip : (xs : List Node) (n : Node) (ys : List Node) → last_or (xs ++ n ∷ ys) None ≢ Some n → last_or (xs ++ n ∷ ys) None ≡ last_or (xs ++ ys) None
last_skip xs n [] h = absurd (h (last_or-append xs (n ∷ []) None))
last_skip xs n (y ∷ ys) h = last_or-append xs (n ∷ y ∷ ys) None ∙ sym (last_or-append xs (y ∷ ys) None)

first_skip : (xs : List Node) (n : Node) (ys : List Node) → first_or (xs ++ n ∷ ys) None ≢ Some n → first_or (xs ++ n ∷ ys) None ≡ first_or (xs ++ ys) None
first_skip [] n ys h = absurd (h refl)
first_skip (x ∷ xs) n ys h = refl

-- the two nodes beside the place, as the list without the node has them
pub record Lands (zs : List Node) (n : Node) (p : ℕ) (before after : Option Node) : Type 0 where
  pub front : List Node
  pub back : List Node
  pub rest : without (same_node n) zs ≡ front ++ back
  pub before_is : before ≡ last_or front None
  pub after_is : after ≡ first_or back None
  pub moved : front ++ n ∷ back ≡ relocated (same_node n) n p zs

lands_by : (xs : List Node) (n : Node) (ys : List Node) (p q : ℕ) (before after : Option Node) → IsDistinct (xs ++ n ∷ ys) → place_after p (length xs) ≡ q →
    before ≡ last_or (take q (xs ++ ys)) None → after ≡ first_or (drop q (xs ++ ys)) None → Lands (xs ++ n ∷ ys) n p before after
lands_by xs n ys p q before after dist e b a = record {
  front = take q (xs ++ ys);
  back = drop q (xs ++ ys);
  rest = without_at xs n ys dist ∙ sym (take-append-drop q (xs ++ ys));
  before_is = b;
  after_is = a;
  moved = sym (relocated_at xs n ys p dist ∙ ap (λ (k : ℕ). insert (xs ++ ys) k n) e);
}

place_low : (p j : ℕ) → p ≤ j → place_after p j ≡ p
place_low p j h = grind arith

place_high : (p j : ℕ) → j < p → place_after p j ≡ p - 1
place_high p j h = grind arith

-- the nodes beside a place, and the node that is moved before it
pub record Beside (xs : List Node) (n : Node) (ys : List Node) (p : ℕ) (before after : Option Node) : Type 0 where
  pub distinct : IsDistinct (xs ++ n ∷ ys)
  pub within : p ≤ length (xs ++ n ∷ ys)
  pub before_is : before ≡ last_or (take p (xs ++ n ∷ ys)) None
  pub after_is : after ≡ first_or (drop p (xs ++ n ∷ ys)) None

lacks_front : (xs : List Node) (n : Node) (ys : List Node) → IsDistinct (xs ++ n ∷ ys) → Lacks xs n
lacks_front xs n ys h = AreApart-head xs ys n (IsDistinct-parts xs (n ∷ ys) h).apart

lacks_back : (xs : List Node) (n : Node) (ys : List Node) → IsDistinct (xs ++ n ∷ ys) → Lacks ys n
lacks_back xs n ys h = (IsDistinct-parts xs (n ∷ ys) h).back.0

-- ---- a place up to the node's own

low_before : (xs : List Node) (n : Node) (ys : List Node) (p : ℕ) → p ≤ length xs → last_or (take p (xs ++ n ∷ ys)) None ≡ last_or (take p xs) None
low_before xs n ys p le = ap (λ (z : List Node). last_or z None) (take-append-le p xs (n ∷ ys) le)

low_after : (xs : List Node) (n : Node) (ys : List Node) (p : ℕ) → p ≤ length xs → first_or (drop p (xs ++ n ∷ ys)) None ≡ first_or (drop p xs ++ n ∷ ys) None
low_after xs n ys p le = ap (λ (z : List Node). first_or z None) (drop-append-le p xs (n ∷ ys) le)

low_lands : (xs : List Node) (n : Node) (ys : List Node) (p : ℕ) (before after : Option Node) → Beside xs n ys p before after → p ≤ length xs → after ≢ Some n → Lands (xs ++ n ∷ ys) n p before after
low_lands xs n ys p before after h le apart =
    let a : after ≡ first_or (drop p xs ++ n ∷ ys) None = h.after_is ∙ low_after xs n ys p le in
    let skip = first_skip (drop p xs) n ys (λ e. apart (a ∙ e)) in
    lands_by xs n ys p p before after h.distinct (place_low p (length xs) le)
    (h.before_is ∙ low_before xs n ys p le ∙ sym (ap (λ (z : List Node). last_or z None) (take-append-le p xs ys le)))
    (a ∙ skip ∙ sym (ap (λ (z : List Node). first_or z None) (drop-append-le p xs ys le)))

-- a node that stands nowhere in a list before it begins nothing but its own part
first_own : (xs : List Node) (n : Node) (ys : List Node) → Lacks xs n → first_or (xs ++ n ∷ ys) None ≡ Some n → length xs ≡ 0
first_own [] n ys h e = omega arith
first_own (x ∷ xs) n ys h e = absurd (h.0 cc)

stays_at : (xs : List Node) (n : Node) (ys : List Node) (p : ℕ) → IsDistinct (xs ++ n ∷ ys) → place_after p (length xs) ≡ length xs → relocated (same_node n) n p (xs ++ n ∷ ys) ≡ xs ++ n ∷ ys
stays_at xs n ys p dist e =
    let z : length xs ≡ length xs + 0 = omega arith in
    relocated_at xs n ys p dist
    ∙ ap (λ (k : ℕ). insert (xs ++ ys) k n) (e ∙ z)
    ∙ ap (λ (l : List Node). l ++ n ∷ drop (length xs + 0) (xs ++ ys)) (take_on xs ys 0 ∙ append-nil xs)
    ∙ ap (λ (l : List Node). xs ++ n ∷ l) (drop_on xs ys 0)

low_stays : (xs : List Node) (n : Node) (ys : List Node) (p : ℕ) (before after : Option Node) → Beside xs n ys p before after → p ≤ length xs → after ≡ Some n → relocated (same_node n) n p (xs ++ n ∷ ys) ≡ xs ++ n ∷ ys
low_stays xs n ys p before after h le e =
    let own = first_own (drop p xs) n ys (lacks_drop xs p n (lacks_front xs n ys h.distinct)) (sym (h.after_is ∙ low_after xs n ys p le) ∙ e) in
    let at : p ≡ length xs = omega (arith, own, le, length-drop p xs) in
    stays_at xs n ys p h.distinct (place_low p (length xs) le ∙ at)

low_not_before : (xs : List Node) (n : Node) (ys : List Node) (p : ℕ) (before after : Option Node) → Beside xs n ys p before after → p ≤ length xs → before ≢ Some n
low_not_before xs n ys p before after h le e =
    Lacks-last (take p xs) n (lacks_take xs p n (lacks_front xs n ys h.distinct)) (sym (h.before_is ∙ low_before xs n ys p le) ∙ e)

-- ---- a place past the node's own

high_before : (xs : List Node) (n : Node) (ys : List Node) (p r : ℕ) → p ≡ length xs + 1 + r → last_or (take p (xs ++ n ∷ ys)) None ≡ last_or (xs ++ n ∷ take r ys) None
high_before xs n ys p r e = ap (λ (k : ℕ). last_or (take k (xs ++ n ∷ ys)) None) e ∙ ap (λ (z : List Node). last_or z None) (take_past xs n ys r)

high_after : (xs : List Node) (n : Node) (ys : List Node) (p r : ℕ) → p ≡ length xs + 1 + r → first_or (drop p (xs ++ n ∷ ys)) None ≡ first_or (drop r ys) None
high_after xs n ys p r e = ap (λ (k : ℕ). first_or (drop k (xs ++ n ∷ ys)) None) e ∙ ap (λ (z : List Node). first_or z None) (drop_past xs n ys r)

high_place : (xs : List Node) (p r : ℕ) → p ≡ length xs + 1 + r → place_after p (length xs) ≡ length xs + r
high_place xs p r e =
    let h = place_high p (length xs) (omega (arith, e)) in
    let d : p - 1 ≡ length xs + r = omega (arith, e) in
    h ∙ d

high_lands : (xs : List Node) (n : Node) (ys : List Node) (p r : ℕ) (before after : Option Node) → Beside xs n ys p before after → p ≡ length xs + 1 + r → before ≢ Some n → Lands (xs ++ n ∷ ys) n p before after
high_lands xs n ys p r before after h past apart =
    let b : before ≡ last_or (xs ++ n ∷ take r ys) None = h.before_is ∙ high_before xs n ys p r past in
    let skip = last_skip xs n (take r ys) (λ e. apart (b ∙ e)) in
    lands_by xs n ys p (length xs + r) before after h.distinct (high_place xs p r past)
    (b ∙ skip ∙ sym (ap (λ (z : List Node). last_or z None) (take_on xs ys r)))
    (h.after_is ∙ high_after xs n ys p r past ∙ sym (ap (λ (z : List Node). first_or z None) (drop_on xs ys r)))

last_own : (xs : List Node) (n : Node) (ys : List Node) → Lacks ys n → last_or (xs ++ n ∷ ys) None ≡ Some n → length ys ≡ 0
last_own xs n [] h e = omega arith
last_own xs n (y ∷ ys) h e = absurd (Lacks-last (y ∷ ys) n h (sym (last_or-append xs (n ∷ y ∷ ys) None) ∙ e))

high_stays : (xs : List Node) (n : Node) (ys : List Node) (p r : ℕ) (before after : Option Node) → Beside xs n ys p before after → p ≡ length xs + 1 + r → before ≡ Some n → relocated (same_node n) n p (xs ++ n ∷ ys) ≡ xs ++ n ∷ ys
high_stays xs n ys p r before after h past e =
    let own = last_own xs n (take r ys) (lacks_take ys r n (lacks_back xs n ys h.distinct)) (sym (h.before_is ∙ high_before xs n ys p r past) ∙ e) in
    let all = length-append xs (n ∷ ys) in
    let le : r ≤ length ys = omega (arith, h.within, past, all) in
    let z : r ≡ 0 = omega (arith, own, length-take-le r ys le) in
    let at : length xs + r ≡ length xs = omega (arith, z) in
    stays_at xs n ys p h.distinct (high_place xs p r past ∙ at)

high_not_after : (xs : List Node) (n : Node) (ys : List Node) (p r : ℕ) (before after : Option Node) → Beside xs n ys p before after → p ≡ length xs + 1 + r → after ≢ Some n
high_not_after xs n ys p r before after h past e =
    Lacks-first (drop r ys) n (lacks_drop ys r n (lacks_back xs n ys h.distinct)) (sym (h.after_is ∙ high_after xs n ys p r past) ∙ e)

-- ---- both together

low_or_high : (p j : ℕ) → (p ≤ j) ⊎ (p ≡ j + 1 + (p - 1 - j))
low_or_high p j = elim (cases_lt j p) as (λ _. (p ≤ j) ⊎ (p ≡ j + 1 + (p - 1 - j))) [ inl h ↦ inr (omega (arith, h)) | inr h ↦ inl h ]

pub lands : (xs : List Node) (n : Node) (ys : List Node) (p : ℕ) (before after : Option Node) → Beside xs n ys p before after → before ≢ Some n → after ≢ Some n → Lands (xs ++ n ∷ ys) n p before after
lands xs n ys p before after h b a = by (low_or_high p (length xs))
  where
    by : (p ≤ length xs) ⊎ (p ≡ length xs + 1 + (p - 1 - length xs)) → Lands (xs ++ n ∷ ys) n p before after
    by (inl le) = low_lands xs n ys p before after h le a
    by (inr e) = high_lands xs n ys p (p - 1 - length xs) before after h e b

pub stays_before : (xs : List Node) (n : Node) (ys : List Node) (p : ℕ) (before after : Option Node) → Beside xs n ys p before after → before ≡ Some n → relocated (same_node n) n p (xs ++ n ∷ ys) ≡ xs ++ n ∷ ys
stays_before xs n ys p before after h b = by (low_or_high p (length xs))
  where
    by : (p ≤ length xs) ⊎ (p ≡ length xs + 1 + (p - 1 - length xs)) → relocated (same_node n) n p (xs ++ n ∷ ys) ≡ xs ++ n ∷ ys
    by (inl le) = absurd (low_not_before xs n ys p before after h le b)
    by (inr e) = high_stays xs n ys p (p - 1 - length xs) before after h e b

pub stays_after : (xs : List Node) (n : Node) (ys : List Node) (p : ℕ) (before after : Option Node) → Beside xs n ys p before after → after ≡ Some n → relocated (same_node n) n p (xs ++ n ∷ ys) ≡ xs ++ n ∷ ys
stays_after xs n ys p before after h a = by (low_or_high p (length xs))
  where
    by : (p ≤ length xs) ⊎ (p ≡ length xs + 1 + (p - 1 - length xs)) → relocated (same_node n) n p (xs ++ n ∷ ys) ≡ xs ++ n ∷ ys
    by (inl le) = low_stays xs n ys p before after h le a
    by (inr e) = absurd (high_not_after xs n ys p (p - 1 - length xs) before after h e a)

-- ---- the same, of a list that holds the node

pub beside : (zs : List Node) (n : Node) (p : ℕ) (before after : Option Node) → (h : Holds zs n) → IsDistinct zs → p ≤ length zs → before ≡ last_or (take p zs) None → after ≡ first_or (drop p zs) None → Beside h.before n h.after p before after
beside zs n p before after h dist le b a = record {
  distinct = subst IsDistinct h.is dist;
  within = subst (λ (z : List Node). p ≤ length z) h.is le;
  before_is = subst (λ (z : List Node). before ≡ last_or (take p z) None) h.is b;
  after_is = subst (λ (z : List Node). after ≡ first_or (drop p z) None) h.is a;
}

pub lands_in : (zs : List Node) (n : Node) (p : ℕ) (before after : Option Node) → (h : Holds zs n) → Beside h.before n h.after p before after → before ≢ Some n → after ≢ Some n → Lands zs n p before after
lands_in zs n p before after h s b a = subst (λ (z : List Node). Lands z n p before after) (sym h.is) (lands h.before n h.after p before after s b a)

stays_in : (zs : List Node) (n : Node) (p : ℕ) → (h : Holds zs n) → relocated (same_node n) n p (h.before ++ n ∷ h.after) ≡ h.before ++ n ∷ h.after → relocated (same_node n) n p zs ≡ zs
stays_in zs n p h e = subst (λ (z : List Node). relocated (same_node n) n p z ≡ z) (sym h.is) e

pub Spells_stays_before : (cs : ℕ → Column) (i : SeqIndex) (zs : List Node) (n : Node) (p : ℕ) (before after : Option Node) → (h : Holds zs n) → Spells cs i zs → Beside h.before n h.after p before after → before ≡ Some n → Spells cs i (relocated (same_node n) n p zs)
Spells_stays_before cs i zs n p before after h s k e =
    subst (λ (z : List Node). Spells cs i z) (sym (stays_in zs n p h (stays_before h.before n h.after p before after k e))) s

pub Spells_stays_after : (cs : ℕ → Column) (i : SeqIndex) (zs : List Node) (n : Node) (p : ℕ) (before after : Option Node) → (h : Holds zs n) → Spells cs i zs → Beside h.before n h.after p before after → after ≡ Some n → Spells cs i (relocated (same_node n) n p zs)
Spells_stays_after cs i zs n p before after h s k e =
    subst (λ (z : List Node). Spells cs i z) (sym (stays_in zs n p h (stays_after h.before n h.after p before after k e))) s

-- the list without the node lacks it
pub without_lacks : (zs : List Node) (n : Node) → Holds zs n → IsDistinct zs → Lacks (without (same_node n) zs) n
without_lacks zs n h dist =
    let d = subst IsDistinct h.is dist in
    subst (λ (z : List Node). Lacks z n) (sym (ap (λ (z : List Node). without (same_node n) z) h.is ∙ without_at h.before n h.after d))
    (Lacks-append h.before h.after n (lacks_front h.before n h.after d) (lacks_back h.before n h.after d))

pub length_without : (zs : List Node) (n : Node) → Holds zs n → IsDistinct zs → length (without (same_node n) zs) + 1 ≡ length zs
length_without zs n h dist =
    let d = subst IsDistinct h.is dist in
    let e = ap (λ (z : List Node). without (same_node n) z) h.is ∙ without_at h.before n h.after d in
    let l : length (without (same_node n) zs) ≡ length (h.before ++ h.after) = ap (λ (z : List Node). length z) e in
    let k : length zs ≡ length (h.before ++ n ∷ h.after) = ap (λ (z : List Node). length z) h.is in
    let m = length-insert h.before n h.after in
    omega (arith, l, k, m)
