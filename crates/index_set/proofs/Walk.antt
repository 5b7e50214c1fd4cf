-- A walk over all indices that changes one after the other.
use Rattle.key_extract.specs.Digests.{Marks}
use Rattle.std.proofs.Common.{◌≡◌, ◌≢◌, ℕ, Bool, true, Option, Some, None, cond, ◌==◌, ◌+◌, ◌<◌, ◌≤◌, List, length, get_or, set, sym, ap, ◌∙◌, subst, arith, refl, false, ⊎_elim, Result, Ok, Err}
use Rattle.std.specs.Prelude.{OnErr, IsTrue}
use Rattle.std.specs.declared.cmp.Ordering.{Ordering}
use Rattle.std.proofs.lemmas.List.{length-map}
use Rattle.node_store.specs.declared.Node.{Node}
use Rattle.node_store.specs.Store.{Store, age_of}
use Rattle.node_store.specs.ByNode.{record_of, contents, columns_in}
use Rattle.node_store.proofs.ByNode.{records_kept, ages_kept}
use Rattle.container_model.specs.declared.handle.Spec.{Spec}
use Rattle.container_model.specs.declared.handle.Kind.{Kind}
use Rattle.container_model.specs.declared.handle.Kind.TheVariants.{Sequenced, Random, Ordered, Ranked, Hashed}
use Rattle.container_model.specs.State.{has_key_kind}
use Rattle.any_index.specs.declared.index.AnyIndex.{AnyIndex}
use Rattle.any_index.specs.Spelled.{HasRoom, list_of, kind_of, col_of, index_of}
use Rattle.any_index.specs.Keyed.{AreKeyed}
use Rattle.std.proofs.lemmas.Bool.{eqb-true, cases_lt}
use Rattle.std.proofs.lemmas.Option.{same_Some}
use Rattle.container_model.specs.Insert.{At, place_in}
use Rattle.any_index.specs.Side.{order_at}
use Rattle.any_index.specs.Lists.{entered, settled_in}
use Rattle.index_set.specs.Each.{EachOf, changed_from, list_at}
use Rattle.index_set.specs.Indices.{IsPlaced, ArePlaced, AreWithin, lists_in, HaveRoom}
use Rattle.index_set.specs.Lists.{entered_at, settled_at}
use Rattle.index_set.proofs.Each.{each_set, each_listed, changed_each, changed_not}
use Rattle.index_set.proofs.Frame.{Steps, IsFar, are_far, placed_set, within_set, list_kept, keyed_kept}

pub below_next : (j k : ℕ) → j < k + 1 → j ≢ k → j < k
below_next j k lt ne = omega (arith, ne)

-- the lists before the place k are changed, the others are as they were
abbrev pub ListedTo : {R : Type 0} → Store R → (ℕ → Spec → List Node → List Node) → List (List Node) → ℕ → ℕ → Spec → AnyIndex → Type 0
ListedTo s change was k j spec i = (j < k → list_of (columns_in s) i ≡ change j spec (list_at was j)) × (k ≤ j → list_of (columns_in s) i ≡ list_at was j)

pub record Walks {R : Type 0} (change : ℕ → Spec → List Node → List Node) (s : Store R) (specs : List Spec) (is : List AnyIndex) (k : ℕ) (t : Store R) (now : List AnyIndex) : Type 0 where
  pub placed : ArePlaced (columns_in t) specs now
  pub within : (columns : ℕ) → AreWithin columns specs is → AreWithin columns specs now
  pub contents : contents t ≡ contents s
  pub lists : EachOf (ListedTo t change (lists_in (columns_in s) is) k) specs now

module _ {R : Type 0} (change : ℕ → Spec → List Node → List Node) (s : Store R) (specs : List Spec) (is : List AnyIndex) where
  pub walk_start : ArePlaced (columns_in s) specs is → Walks change s specs is 0 s is
  walk_start p = record {
    placed = p;
    within = λ columns h. h;
    contents = refl;
    lists = λ j d e lt. ((λ below. absurd (omega (arith, below))), (λ _. each_listed (list_of (columns_in s)) specs is p.one_each j d e lt));
  }

  -- the next list is as it was
  pub walk_here : (k : ℕ) (t : Store R) (now : List AnyIndex) (d : AnyIndex) → k < length specs → Walks change s specs is k t now → list_of (columns_in t) (get_or now k d) ≡ list_at (lists_in (columns_in s) is) k
  walk_here k t now d lt w = (w.lists k (record { kind = Sequenced; unique = false }) d lt).1 (omega arith)

  pub walk_step : (k : ℕ) (t u : Store R) (now : List AnyIndex) (d new : AnyIndex) → k < length specs → Walks change s specs is k t now → Steps t u (get_or now k d) new → contents u ≡ contents t →
      ((e : Spec) → list_of (columns_in u) new ≡ change k (get_or specs k e) (list_of (columns_in t) (get_or now k d))) → Walks change s specs is (k + 1) u (set now k new)
  walk_step k t u now d new lt w step same listed = record {
    placed = placed_set t u specs now k d new lt w.placed step;
    within = λ columns h. within_set columns specs now k d new step.col lt w.placed.one_each (w.within columns h);
    contents = same ∙ w.contents;
    lists =
        each_set (λ j spec i. (IsPlaced (columns_in t) j spec i × IsFar now k d j i) × ListedTo t change was k j spec i) (ListedTo u change was (k + 1)) specs now k new w.placed.one_each lt
        (λ j e f below. ((w.placed.each j e f below, are_far specs now k d lt w.placed.apart j e f below), w.lists j e f below))
        (λ e. ((λ _. listed e ∙ ap (change k (get_or specs k e)) (walk_here k t now d lt w)), (λ above. absurd (omega (arith, above)))))
        (λ j spec i apart p.
        let kept = list_kept t u (col_of (get_or now k d)) j spec i p.0.0 step.others (p.0.1 apart) same in
        ((λ below. kept ∙ p.1.0 (below_next j k below apart)), (λ above. kept ∙ p.1.1 (omega (arith, above)))));
  }
    where
      was : List (List Node)
      was = lists_in (columns_in s) is

  pub walk_end : (k : ℕ) (t : Store R) (now : List AnyIndex) → length specs ≤ k → length is ≡ length specs → Walks change s specs is k t now → lists_in (columns_in t) now ≡ changed_from change 0 specs (lists_in (columns_in s) is)
  walk_end k t now all one w =
      changed_each (list_of (columns_in t)) change specs now (lists_in (columns_in s) is) w.placed.one_each (length-map is (list_of (columns_in s)) ∙ one)
      (λ j d e lt. (w.lists j d e lt).0 (omega (arith, all, lt)))

-- the indices before the place k are keyed, and of the others what the view shows
abbrev pub KeyedTo : {R : Type 0} → (ℕ → R → R → Ordering) → (ℕ → R → Marks) → Store R → (List Node → List Node) → ℕ → ℕ → Spec → AnyIndex → Type 0
KeyedTo order marks s view k j spec i = (j < k → AreKeyed order marks s i (list_of (columns_in s) i)) × (k ≤ j → AreKeyed order marks s i (view (list_of (columns_in s) i)))

module _ {R : Type 0} (order : ℕ → R → R → Ordering) (marks : ℕ → R → Marks) (view : List Node → List Node) (specs : List Spec) where
  pub keyed_start : (s : Store R) (is : List AnyIndex) → EachOf (λ _ _ i. AreKeyed order marks s i (view (list_of (columns_in s) i))) specs is → EachOf (KeyedTo order marks s view 0) specs is
  keyed_start s is h j d e lt = ((λ below. absurd (omega (arith, below))), (λ _. h j d e lt))

  pub keyed_here : (s : Store R) (is : List AnyIndex) (k : ℕ) (d : AnyIndex) → k < length specs → EachOf (KeyedTo order marks s view k) specs is → AreKeyed order marks s (get_or is k d) (view (list_of (columns_in s) (get_or is k d)))
  keyed_here s is k d lt h = (h k (record { kind = Sequenced; unique = false }) d lt).1 (omega arith)

  pub keyed_step : (k : ℕ) (s t : Store R) (is : List AnyIndex) (d new : AnyIndex) → k < length specs → ArePlaced (columns_in s) specs is → Steps s t (get_or is k d) new → contents t ≡ contents s →
      AreKeyed order marks t new (list_of (columns_in t) new) → EachOf (KeyedTo order marks s view k) specs is → EachOf (KeyedTo order marks t view (k + 1)) specs (set is k new)
  keyed_step k s t is d new lt placed step same keyed h =
      each_set (λ j spec i. (IsPlaced (columns_in s) j spec i × IsFar is k d j i) × KeyedTo order marks s view k j spec i) (KeyedTo order marks t view (k + 1)) specs is k new placed.one_each lt
      (λ j e f below. ((placed.each j e f below, are_far specs is k d lt placed.apart j e f below), h j e f below))
      (λ e. ((λ _. keyed), (λ above. absurd (omega (arith, above)))))
      (λ j spec i apart p.
      let c = col_of (get_or is k d) in
      let kept = list_kept s t c j spec i p.0.0 step.others (p.0.1 apart) same in (
        (λ below. keyed_kept order marks s t c j spec i _ _ p.0.0 step.others same (p.0.1 apart) kept (p.1.0 (below_next j k below apart))),
        (λ above. keyed_kept order marks s t c j spec i _ _ p.0.0 step.others same (p.0.1 apart) (ap view kept) (p.1.1 (omega (arith, above)))),
      ))

  pub keyed_end : (s : Store R) (is : List AnyIndex) (k : ℕ) → length specs ≤ k → EachOf (KeyedTo order marks s view k) specs is → EachOf (λ _ _ i. AreKeyed order marks s i (list_of (columns_in s) i)) specs is
  keyed_end s is k all h j d e lt = (h j d e lt).0 (omega (arith, all, lt))

-- the indices before the place k have room
abbrev pub RoomTo : ℕ → ℕ → Spec → AnyIndex → Type 0
RoomTo k j spec i = j < k → HasRoom i

-- those from the place k on have
abbrev pub RoomFrom : ℕ → ℕ → Spec → AnyIndex → Type 0
RoomFrom k j spec i = k ≤ j → HasRoom i

-- those from the place k on are as they were
abbrev pub SameFrom : List AnyIndex → ℕ → ℕ → Spec → AnyIndex → Type 0
SameFrom was k j spec i = k ≤ j → (e : AnyIndex) → i ≡ get_or was j e

module _ (specs : List Spec) (is : List AnyIndex) (k : ℕ) (new : AnyIndex) (one : length is ≡ length specs) (lt : k < length specs) where
  pub room_to_step : HasRoom new → EachOf (RoomTo k) specs is → EachOf (RoomTo (k + 1)) specs (set is k new)
  room_to_step here h = each_set (RoomTo k) (RoomTo (k + 1)) specs is k new one lt h (λ e _. here) (λ j spec i apart p below. p (below_next j k below apart))

  pub room_from_step : EachOf (RoomFrom k) specs is → EachOf (RoomFrom (k + 1)) specs (set is k new)
  room_from_step h = each_set (RoomFrom k) (RoomFrom (k + 1)) specs is k new one lt h (λ e above. absurd (omega (arith, above))) (λ j spec i apart p above. p (omega (arith, above)))

  pub same_from_step : (was : List AnyIndex) → EachOf (SameFrom was k) specs is → EachOf (SameFrom was (k + 1)) specs (set is k new)
  same_from_step was h = each_set (SameFrom was k) (SameFrom was (k + 1)) specs is k new one lt h (λ e above. absurd (omega (arith, above))) (λ j spec i apart p above. p (omega (arith, above)))

-- a change of a list goes by the order of its key alone, if it has one
pub entered_alike : (kind : Kind) (ages : Node → ℕ) (f g : Node → Node → Ordering) (at : Option ℕ) (n : Node) (xs : List Node) → (IsTrue (has_key_kind kind) → f ≡ g) → entered kind ages f at n xs ≡ entered kind ages g at n xs
entered_alike Sequenced ages f g at n xs same = refl
entered_alike Random ages f g at n xs same = refl
entered_alike Ordered ages f g at n xs same = ap (λ (h : Node → Node → Ordering). entered Ordered ages h at n xs) (same refl)
entered_alike Ranked ages f g at n xs same = ap (λ (h : Node → Node → Ordering). entered Ranked ages h at n xs) (same refl)
entered_alike Hashed ages f g at n xs same = refl

settled_alike : (kind : Kind) (f g : Node → Node → Ordering) (n : Node) (xs : List Node) → (IsTrue (has_key_kind kind) → f ≡ g) → settled_in kind f n xs ≡ settled_in kind g n xs
settled_alike Sequenced f g n xs same = refl
settled_alike Random f g n xs same = refl
settled_alike Ordered f g n xs same = ap (λ (h : Node → Node → Ordering). settled_in Ordered h n xs) (same refl)
settled_alike Ranked f g n xs same = ap (λ (h : Node → Node → Ordering). settled_in Ranked h n xs) (same refl)
settled_alike Hashed f g n xs same = refl

-- the place that was asked for in an index was asked for in this one
abbrev asked_for : ℕ → ℕ → At
asked_for index p = Some (index, p)

pub asked_here : (at : At) (index p : ℕ) → place_in at index ≡ Some p → at ≡ asked_for index p
asked_here None index p e = cc
asked_here (Some at) index p e = asked_in (at.0 == index) refl e
  where
    asked_in : (b : Bool) → (at.0 == index) ≡ b → cond b (Some at.1) None ≡ Some p → asked_for at.0 at.1 ≡ asked_for index p
    asked_in true h f = λ i. asked_for (eqb-true at.0 index h i) (same_Some at.1 p f i)
    asked_in false h f = cc

module _ {R : Type 0} (order : ℕ → R → R → Ordering) (s : Store R) (specs : List Spec) (is : List AnyIndex) (n : Node) where
  -- what the call at one index does, in the words of the walk
  pub entered_here : (at : At) (k : ℕ) (t u : Store R) (now : List AnyIndex) (d new : AnyIndex) (place : Option ℕ) → k < length specs → Walks (entered_at order (record_of s) (age_of s) at n) s specs is k t now → place ≡ place_in at k →
      list_of (columns_in u) new ≡ entered (kind_of (get_or now k d)) (age_of t) (order_at (record_of t) (order (index_of (get_or now k d)))) place n (list_of (columns_in t) (get_or now k d)) →
      (e : Spec) → list_of (columns_in u) new ≡ entered_at order (record_of s) (age_of s) at n k (get_or specs k e) (list_of (columns_in t) (get_or now k d))
  entered_here at k t u now d new place lt w a listed e =
      let p = w.placed.each k e d lt in
      let r : record_of t ≡ record_of s = records_kept s t w.contents in
      let ages : age_of t ≡ age_of s = ages_kept s t w.contents in
      listed ∙ entered_alike (kind_of (get_or now k d)) (age_of t) _ (order_at (record_of s) (order k)) place n _ (λ has. λ i. order_at (r i) (order (p.number has i)))
      ∙ (λ i. entered (p.kind i) (ages i) (order_at (record_of s) (order k)) (a i) n (list_of (columns_in t) (get_or now k d)))

  pub settled_here : (k : ℕ) (t u : Store R) (now : List AnyIndex) (d new : AnyIndex) → k < length specs → Walks (settled_at order (record_of s) n) s specs is k t now →
      list_of (columns_in u) new ≡ settled_in (kind_of (get_or now k d)) (order_at (record_of t) (order (index_of (get_or now k d)))) n (list_of (columns_in t) (get_or now k d)) →
      (e : Spec) → list_of (columns_in u) new ≡ settled_at order (record_of s) n k (get_or specs k e) (list_of (columns_in t) (get_or now k d))
  settled_here k t u now d new lt w listed e =
      let p = w.placed.each k e d lt in
      let r : record_of t ≡ record_of s = records_kept s t w.contents in
      listed ∙ settled_alike (kind_of (get_or now k d)) _ (order_at (record_of s) (order k)) n (list_of (columns_in t) (get_or now k d)) (λ has. λ i. order_at (r i) (order (p.number has i)))
      ∙ (λ i. settled_in (p.kind i) (order_at (record_of s) (order k)) n (list_of (columns_in t) (get_or now k d)))

-- what holds before and after each place holds
either_side : {P : Type 0} (j k : ℕ) → (j < k → P) → (k ≤ j → P) → P
either_side j k below above = ⊎_elim below above (cases_lt j k)

module _ {R : Type 0} (s t : Store R) (specs : List Spec) (is now : List AnyIndex) (k : ℕ) where
  -- a walk that changes no list
  pub same_walk : length is ≡ length specs → Walks (λ _ _ xs. xs) s specs is k t now → lists_in (columns_in t) now ≡ lists_in (columns_in s) is
  same_walk one w =
      let was = lists_in (columns_in s) is in
      let each : length was ≡ length specs = length-map is (list_of (columns_in s)) ∙ one in
      changed_each (list_of (columns_in t)) (λ _ _ xs. xs) specs now was w.placed.one_each each (λ j d e lt. let p = w.lists j d e lt in either_side j k p.0 p.1)
      ∙ changed_not (λ xs. xs) 0 specs was each (λ xs. refl)

  pub all_keyed : (order : ℕ → R → R → Ordering) (marks : ℕ → R → Marks) → EachOf (KeyedTo order marks t (λ xs. xs) k) specs now → EachOf (λ _ _ i. AreKeyed order marks t i (list_of (columns_in t) i)) specs now
  all_keyed order marks h j d e lt = let p = h j d e lt in either_side j k p.0 p.1

-- an index that has no room is one of those that were there
pub no_room : (specs : List Spec) (is now : List AnyIndex) (k : ℕ) (d : AnyIndex) → k < length specs → EachOf (SameFrom is k) specs now → (¬ HasRoom (get_or now k d)) → ¬ HaveRoom specs is
no_room specs is now k d lt same none room =
    let e : Spec = record { kind = Sequenced; unique = false } in
    none (subst HasRoom (sym (same k e d lt (omega arith) d)) (room.each k e d lt))

pub on_err : {A B : Type 0} (r : Result A B) {P : Type 0} → P → OnErr r P
on_err (Ok a) h = tt
on_err (Err b) h = h
