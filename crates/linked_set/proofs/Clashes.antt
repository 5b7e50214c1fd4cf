-- Two nodes whose records have one key, as two handles.
use Rattle.std.proofs.Common.{◌≡◌, Bool, true, false, cond, List, [], ◌∷◌, ◌++◌, Option, Some, None, refl, sym, ap, ◌∙◌, subst}
use Rattle.std.specs.Prelude.{find, option_and_then, option_map}
use Rattle.std.specs.List.{AllByRecursion, filter_map, cons_option}
use Rattle.std.specs.Option.{option_map_or, option_cmp}
use Rattle.std.specs.Ordering.{is_eq}
use Rattle.std.specs.declared.cmp.Ordering.{Ordering}
use Rattle.std.proofs.lemmas.Option.{same_Some}
use Rattle.std.proofs.lemmas.List.Elements.{filter_map-append}
use Rattle.list_model.proofs.Lists.{All-join}
use Rattle.node_store.specs.declared.Node.{Node}
use Rattle.container_model.specs.declared.handle.Handle.{Handle}
use Rattle.container_model.specs.declared.handle.Entry.{Entry}
use Rattle.container_model.specs.Indices as handles
use Rattle.index_set.specs.Added as nodes
use Rattle.linked_set.specs.Linked.{handle_of, IsKnown}
use Rattle.linked_set.proofs.NewList.{by_rows}
use Rattle.linked_set.proofs.Bans.{find_of}
use Rattle.linked_set.proofs.Sides.{handle_known}

-- both nodes of a clash are of the list
module _ (P : Node → Type 0) (compare : Node → Node → Ordering) where
  both_members : (before after : List Node) → AllByRecursion P before → AllByRecursion P after → (m n : Node) → nodes.clash_from compare before after ≡ Some (m, n) → P m × P n
  both_members before [] all more m n e = absurd (cc)
  both_members before (x ∷ xs) all more m n e =
      by_found (find (λ d. is_eq (compare d x)) before) refl (both_members (before ++ x ∷ []) xs (All-join P before (x ∷ []) all (more.0, tt)) more.1 m n) e
    where
      by_found : (o : Option Node) → find (λ d. is_eq (compare d x)) before ≡ o → (nodes.clash_from compare (before ++ x ∷ []) xs ≡ Some (m, n) → P m × P n) → option_map_or (λ d. Some (d, x)) o (nodes.clash_from compare (before ++ x ∷ []) xs) ≡ Some (m, n) → P m × P n
      by_found None here rest e = rest e
      by_found (Some d) here rest e =
          let pair = same_Some (d, x) (m, n) e in
          (subst P (ap (λ p. p.0) pair) (find_of P (λ d. is_eq (compare d x)) before d all here), subst P (ap (λ p. p.1) pair) more.0)

  pub clash_members : (unique : Bool) (ns : List Node) → AllByRecursion P ns → (m n : Node) → nodes.clash compare unique ns ≡ Some (m, n) → P m × P n
  clash_members true ns all m n e = both_members [] ns tt all m n e
  clash_members false ns all m n e = absurd (cc)

module _ {R : Type 0} (records : Node → Option (Entry R)) (entries : List (Entry R)) (order : R → R → Ordering) where
  abbrev pub pair_of : Node × Node → Handle × Handle
  pair_of p = (handle_of records p.0, handle_of records p.1)

  module _ (n : Node) (e : Entry R) (is : records n ≡ Some e) where
    -- the first node of the record's key has the first record of that key
    found_entry : (ns : List Node) → AllByRecursion (IsKnown records entries) ns →
        find (λ d. is_eq (order d.row e.row)) (filter_map records ns) ≡ option_and_then records (find (λ m. is_eq (by_rows records entries order m n)) ns)
    found_entry [] known = refl
    found_entry (m ∷ ms) known =
        let k = known.0 in
        ap (λ o. find (λ d. is_eq (order d.row e.row)) (cons_option o (filter_map records ms))) k.is
        ∙ ap (cond (is_eq (order k.entry.row e.row)) (Some k.entry)) (found_entry ms known.1)
        ∙ by_test (is_eq (order k.entry.row e.row))
        ∙ ap (λ b. option_and_then records (cond b (Some m) (find (λ x. is_eq (by_rows records entries order x n)) ms))) (λ i. is_eq (option_cmp (λ (a b : Entry R). order a.row b.row) (sym k.is i) (sym is i)))
      where
        by_test : (b : Bool) → cond b (Some known.0.entry) (option_and_then records (find (λ x. is_eq (by_rows records entries order x n)) ms)) ≡ option_and_then records (cond b (Some m) (find (λ x. is_eq (by_rows records entries order x n)) ms))
        by_test true = sym known.0.is
        by_test false = refl

    same_pair : (before : List Node) → AllByRecursion (IsKnown records entries) before → (p : Node → Bool) (rest : Option (Node × Node)) →
        option_map_or (λ d. Some (d.handle, e.handle)) (option_and_then records (find p before)) (option_map pair_of rest) ≡ option_map pair_of (option_map_or (λ m. Some (m, n)) (find p before) rest)
    same_pair before known p rest = by_found (find p before) refl
      where
        by_found : (o : Option Node) → find p before ≡ o → option_map_or (λ d. Some (d.handle, e.handle)) (option_and_then records o) (option_map pair_of rest) ≡ option_map pair_of (option_map_or (λ m. Some (m, n)) o rest)
        by_found None here = refl
        by_found (Some m) here =
            let k = find_of (IsKnown records entries) p before m known here in
            ap (λ o. option_map_or (λ (d : Entry R). Some (d.handle, e.handle)) o (option_map pair_of rest)) k.is
            ∙ (λ i. Some (sym (handle_known records entries m k.entry k.is) i, sym (handle_known records entries n e is) i))

  clash_by_handles : (before after : List Node) → AllByRecursion (IsKnown records entries) before → AllByRecursion (IsKnown records entries) after →
      handles.clash_from order (filter_map records before) (filter_map records after) ≡ option_map pair_of (nodes.clash_from (by_rows records entries order) before after)
  clash_by_handles before [] known more = refl
  clash_by_handles before (n ∷ ns) known more =
      let e = more.0.entry in
      let is = more.0.is in
      let pushed : filter_map records before ++ e ∷ [] ≡ filter_map records (before ++ n ∷ []) = ap (λ o. filter_map records before ++ cons_option o []) (sym is) ∙ sym (filter_map-append records before (n ∷ [])) in
      ap (λ o. handles.clash_from order (filter_map records before) (cons_option o (filter_map records ns))) is
      ∙ (λ i. option_map_or (λ d. Some (d.handle, e.handle)) (found_entry n e is before known i) (handles.clash_from order (pushed i) (filter_map records ns)))
      ∙ ap (option_map_or (λ d. Some (d.handle, e.handle)) (option_and_then records (find (λ m. is_eq (by_rows records entries order m n)) before)))
      (clash_by_handles (before ++ n ∷ []) ns (All-join (IsKnown records entries) before (n ∷ []) known (more.0, tt)) more.1)
      ∙ same_pair n e is before known (λ m. is_eq (by_rows records entries order m n)) (nodes.clash_from (by_rows records entries order) (before ++ n ∷ []) ns)

  -- the two records of a clash are those of the two nodes
  pub clash_seen : (unique : Bool) (ns : List Node) → AllByRecursion (IsKnown records entries) ns →
      cond unique (handles.clash_from order [] (filter_map records ns)) None ≡ option_map pair_of (nodes.clash (by_rows records entries order) unique ns)
  clash_seen true ns known = clash_by_handles [] ns tt known
  clash_seen false ns known = refl
