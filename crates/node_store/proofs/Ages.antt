-- Laws of the ages of a store's nodes.
use Rattle.std.proofs.Common.{◌≡◌, ◌≢◌, ℕ, ◌+◌, ◌<◌, ◌≤◌, Option, Some, None, sym, ap, ◌∙◌, arith, ⊎_elim, nat_cmp}
use Rattle.std.specs.Option.{option_map}
use Rattle.std.specs.FinMap as map
use Rattle.std.proofs.lemmas.Bool.{cases_eq, cases_lt}
use Rattle.std.proofs.lemmas.Option.{same_Some}
use Rattle.node_store.specs.declared.Node.{Node}
use Rattle.node_store.specs.Store.{Store, Entry, IsStore, IsNodeOf, number_of, nodes, aged, age_of, empty_store}
use Rattle.node_store.specs.ByNode.{contents, AddsNode, RemovesNode}
use Rattle.node_store.proofs.ByNode.{nodes_kept, aged_kept, ages_kept, added_kept, others_added, others_removed}

no_node : (R : Type 0) (width k : ℕ) → nodes (empty_store {R = R} width) k ≡ None
unfolding nodes
no_node R width k = ap (option_map (λ (e : Entry R). e.node)) (map.get-empty nat_cmp k)

none_aged : (R : Type 0) (width k : ℕ) → aged (empty_store {R = R} width) k ≡ None
unfolding aged
none_aged R width k = map.get-empty nat_cmp k

module _ {R : Type 0} where
  -- a node of the store stands at its age
  pub at_its_age : (s : Store R) → IsStore s → (n : Node) → IsNodeOf s n → aged s (age_of s n) ≡ Some n
  at_its_age s sound n is = sound.stands n is

  -- no two nodes have one age
  pub same_age : (s : Store R) → IsStore s → (m n : Node) → IsNodeOf s m → IsNodeOf s n → age_of s m ≡ age_of s n → m ≡ n
  same_age s sound m n is_m is_n e = same_Some m n (sym (sound.stands m is_m) ∙ (ap (aged s) e ∙ sound.stands n is_n))

  -- which is below the count of adds
  pub age_below : (s : Store R) (sound : IsStore s) (n : Node) → IsNodeOf s n → age_of s n < s.added
  age_below s sound n is =
      ⊎_elim
      (λ (below : age_of s n < s.added). below)
      (λ (above : s.added ≤ age_of s n). let bad = sym (sound.stands n is) ∙ sound.bounded (age_of s n) above in cc)
      (cases_lt (age_of s n) s.added)

  -- ---- which stores are sound

  pub IsStore_empty : (width : ℕ) → IsStore (empty_store {R = R} width)
  IsStore_empty width = record {
    numbered = λ k n at. let bad = sym at ∙ no_node R width k in cc;
    node = λ k n at. let bad = sym at ∙ none_aged R width k in cc;
    age = λ k n at. let bad = sym at ∙ none_aged R width k in cc;
    stands = λ n is. let bad = sym is ∙ no_node R width (number_of n) in cc;
    bounded = λ k le. none_aged R width k;
  }

  -- the nodes and their ages stay
  pub IsStore_same : (old new : Store R) → nodes new ≡ nodes old → aged new ≡ aged old → age_of new ≡ age_of old → new.added ≡ old.added → IsStore old → IsStore new
  IsStore_same old new e f g count h =
      let named : (k : ℕ) → nodes new k ≡ nodes old k = λ k. ap (λ (z : ℕ → Option Node). z k) e in
      let at_age : (k : ℕ) → aged new k ≡ aged old k = λ k. ap (λ (z : ℕ → Option Node). z k) f in
      let age : (n : Node) → age_of new n ≡ age_of old n = λ n. ap (λ (z : Node → ℕ). z n) g in
      record {
        numbered = λ k n at. h.numbered k n (sym (named k) ∙ at);
        node = λ k n at. named (number_of n) ∙ h.node k n (sym (at_age k) ∙ at);
        age = λ k n at. age n ∙ h.age k n (sym (at_age k) ∙ at);
        stands = λ n is. at_age (age_of new n) ∙ ap (aged old) (age n) ∙ h.stands n (sym (named (number_of n)) ∙ is);
        bounded = λ k le. at_age k ∙ h.bounded k (omega (arith, le, count));
      }

  pub IsStore_kept : (old new : Store R) → contents new ≡ contents old → IsStore old → IsStore new
  IsStore_kept old new same = IsStore_same old new (nodes_kept old new same) (aged_kept old new same) (ages_kept old new same) (added_kept old new same)

  -- a node comes
  pub IsStore_added : (old new : Store R) (n : Node) (value : R) → AddsNode old new n value → age_of new n ≡ old.added → new.added ≡ old.added + 1 → IsStore old → IsStore new
  IsStore_added old new n value a age count h = record {
    numbered = λ k m at.
        ⊎_elim
        (λ (same : k ≡ number_of n). let is_n : n ≡ m = same_Some n m (sym a.nodes.changed ∙ (ap (nodes new) (sym same) ∙ at)) in ap number_of (sym is_n) ∙ sym same)
        (λ apart. h.numbered k m (sym (a.nodes.others k apart) ∙ at))
        (cases_eq k (number_of n));
    node = λ k m at.
        ⊎_elim
        (λ (same : k ≡ old.added). let is_n : n ≡ m = same_Some n m (sym a.aged.changed ∙ (ap (aged new) (sym same) ∙ at)) in ap (λ z. nodes new (number_of z)) (sym is_n) ∙ (a.nodes.changed ∙ ap Some is_n))
        (λ apart. others_added old new n value a m (h.node k m (sym (a.aged.others k apart) ∙ at)))
        (cases_eq k old.added);
    age = λ k m at.
        ⊎_elim
        (λ (same : k ≡ old.added). let is_n : n ≡ m = same_Some n m (sym a.aged.changed ∙ (ap (aged new) (sym same) ∙ at)) in ap (age_of new) (sym is_n) ∙ (age ∙ sym same))
        (λ apart. let stood = sym (a.aged.others k apart) ∙ at in a.ages m (h.node k m stood) ∙ h.age k m stood)
        (cases_eq k old.added);
    stands = λ m is.
        ⊎_elim
        (λ (same : number_of m ≡ number_of n).
        let is_n : n ≡ m = same_Some n m (sym a.nodes.changed ∙ (ap (nodes new) (sym same) ∙ is)) in
        ap (λ z. aged new (age_of new z)) (sym is_n) ∙ ap (aged new) age ∙ a.aged.changed ∙ ap Some is_n)
        (λ apart.
        let was = sym (a.nodes.others (number_of m) apart) ∙ is in
        let same = a.ages m was in
        let below = age_below old h m was in
        ap (aged new) same ∙ a.aged.others (age_of old m) (λ e. absurd (omega arith)) ∙ h.stands m was)
        (cases_eq (number_of m) (number_of n));
    bounded = λ k le. a.aged.others k (λ e. absurd (omega (arith, le, count, e))) ∙ h.bounded k (omega (arith, le, count));
  }

  -- a node goes
  pub IsStore_removed : (old new : Store R) (n : Node) → IsNodeOf old n → RemovesNode old new n → new.added ≡ old.added → IsStore old → IsStore new
  IsStore_removed old new n here r count h = record {
    numbered = λ k m at.
        ⊎_elim
        (λ (same : k ≡ number_of n). let bad = sym r.nodes.changed ∙ (ap (nodes new) (sym same) ∙ at) in cc)
        (λ apart. h.numbered k m (sym (r.nodes.others k apart) ∙ at))
        (cases_eq k (number_of n));
    node = λ k m at. others_removed old new n here r m (apart k m at) (h.node k m (stood k m at));
    age = λ k m at. let was = stood k m at in r.ages m (apart k m at) (h.node k m was) ∙ h.age k m was;
    stands = λ m is.
        let off : number_of m ≢ number_of n = λ e. let bad = sym is ∙ (ap (nodes new) e ∙ r.nodes.changed) in cc bad in
        let was = sym (r.nodes.others (number_of m) off) ∙ is in
        let other : m ≢ n = λ e. off (ap number_of e) in
        ap (aged new) (r.ages m other was) ∙ r.aged.others (age_of old m) (λ e. other (same_age old h m n was here e)) ∙ h.stands m was;
    bounded = λ k le.
        ⊎_elim
        (λ (same : k ≡ age_of old n). ap (aged new) same ∙ r.aged.changed)
        (λ apart. r.aged.others k apart ∙ h.bounded k (omega (arith, le, count)))
        (cases_eq k (age_of old n));
  }
    where
      later : (k : ℕ) (m : Node) → aged new k ≡ Some m → k ≢ age_of old n
      later k m at e = let bad = sym at ∙ (ap (aged new) e ∙ r.aged.changed) in cc bad

      stood : (k : ℕ) (m : Node) → aged new k ≡ Some m → aged old k ≡ Some m
      stood k m at = sym (r.aged.others k (later k m at)) ∙ at

      apart : (k : ℕ) (m : Node) → aged new k ≡ Some m → m ≢ n
      apart k m at e = later k m at (sym (h.age k m (stood k m at)) ∙ ap (age_of old) e)
