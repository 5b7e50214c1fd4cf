-- Tables read one after another, each at its place.
use Rattle.std.proofs.Common.{◌≡◌, ℕ, ◌+◌, ◌<◌, ◌≤◌, List, [], ◌∷◌, ◌++◌, length, get_or, drop, Option, Some, None, ap, sym, ◌∙◌}
use Rattle.std.specs.Prelude.{option_map, option_and_then}
use Rattle.std.proofs.lemmas.List.{drop_more, drop_all, append-nil}
use Rattle.table_schema.specs.Shape.{TableShape}
use Rattle.table_schema.specs.Draft.{TableDraft, all_of}
use Rattle.table_schema.specs.Resolved.{table_for, tables_from, tables_for}
use Rattle.table_schema.proofs.Readings.{after, after_none, after_one}

module _ (ds : List TableDraft) where
  -- where the walk stands that has read the first i
  abbrev pub Stands : ℕ → List TableShape → Type 0
  Stands i done = after done (all_of (tables_from (length ds) i (drop i ds))) ≡ tables_for ds

  pub stands_none : Stands 0 []
  stands_none = after_none (tables_for ds)

  abbrev rest : ℕ → List TableShape → Option TableShape → Option (List TableShape)
  rest i done o = after done (option_and_then (λ y. option_map (λ ys. y ∷ ys) (all_of (tables_from (length ds) (i + 1) (drop (i + 1) ds)))) o)

  turn : (i : ℕ) (d : TableDraft) (done : List TableShape) → i < length ds → Stands i done → rest i done (table_for (length ds) i (get_or ds i d)) ≡ tables_for ds
  turn i d done l h = ap (λ ws. after done (all_of (tables_from (length ds) i ws))) (sym (drop_more ds i d l)) ∙ h

  pub stands_one : (i : ℕ) (d : TableDraft) (done : List TableShape) (x : TableShape) → i < length ds → Stands i done → table_for (length ds) i (get_or ds i d) ≡ Some x → Stands (i + 1) (done ++ x ∷ [])
  stands_one i d done x l h e =
      sym (after_one done x (all_of (tables_from (length ds) (i + 1) (drop (i + 1) ds))))
      ∙ (ap (rest i done) (sym e) ∙ turn i d done l h)

  pub stands_fails : (i : ℕ) (d : TableDraft) (done : List TableShape) → i < length ds → Stands i done → table_for (length ds) i (get_or ds i d) ≡ None → None ≡ tables_for ds
  stands_fails i d done l h e = ap (rest i done) (sym e) ∙ turn i d done l h

  pub stands_all : (i : ℕ) (done : List TableShape) → length ds ≤ i → Stands i done → Some done ≡ tables_for ds
  stands_all i done l h =
      ap Some (sym (append-nil done))
      ∙ (ap (λ ws. after done (all_of (tables_from (length ds) i ws))) (sym (drop_all i ds l)) ∙ h)

-- the steps of such a walk
pub ruleset stands = (stands_none, stands_one, stands_fails, stands_all)
