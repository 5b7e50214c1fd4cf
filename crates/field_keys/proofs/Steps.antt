-- One part of a table's key after another.
use Rattle.std.proofs.Common.{◌≡◌, ℕ, true, false, cond, ◌+◌, ◌<◌, ◌≤◌, List, [], ◌∷◌, length, map, get_or, take, drop, refl, ap, sym, ◌∙◌, add-zero, arith}
use Rattle.std.specs.declared.cmp.Ordering.{Ordering}
use Rattle.std.specs.declared.cmp.Ordering.TheVariants.{Equal}
use Rattle.std.proofs.lemmas.List.{drop_more, drop_all, get_or-drop, drop-drop}
use Rattle.std.specs.Ordering.{ordering_then}
use Rattle.key_extract.specs.declared.cell.Cell.{Cell}
use Rattle.key_extract.specs.declared.cell.Cell.TheVariants.{Null}
use Rattle.key_extract.specs.declared.key.Part.{Part}
use Rattle.key_extract.specs.Keys.{part_cmp, key_cmp, probe_cmp}
use Rattle.key_extract.proofs.Steps.{rows_differ, rows_agree, probe_differs, probe_agrees}
use Rattle.field_keys.specs.declared.part.KeyPart.{KeyPart}
use Rattle.field_keys.specs.declared.search.Value.{Value}
use Rattle.field_keys.specs.Fields.{part_of}
use Rattle.field_keys.specs.Values.{value_cell, value_side}
use Rattle.field_keys.specs.Sought.{Sought, padded, sought}

module _ (parts : List KeyPart) (a b : List Cell) (i : ℕ) (d : KeyPart) (o t : Ordering) (within : i < length parts) (here : o ≡ part_cmp (part_of (get_or parts i d)) a b) (so_far : key_cmp (map part_of (drop i parts)) a b ≡ t) where
  first : key_cmp (part_of (get_or parts i d) ∷ map part_of (drop (i + 1) parts)) a b ≡ t
  first = ap (λ ps. key_cmp (map part_of ps) a b) (sym (drop_more parts i d within)) ∙ so_far

  pub records_differ : (o ≡ Equal → ⊥) → o ≡ t
  records_differ h = rows_differ (part_of (get_or parts i d) ∷ map part_of (drop (i + 1) parts)) a b 0 (part_of d) o t (omega arith) here first h

  pub records_agree : o ≡ Equal → key_cmp (map part_of (drop (i + 1) parts)) a b ≡ t
  records_agree h = rows_agree (part_of (get_or parts i d) ∷ map part_of (drop (i + 1) parts)) a b 0 (part_of d) o t (omega arith) here first h

-- the cells that are left, one for each part that is left
padded_first : (part : Part) (parts : List Part) (cells : List Cell) → padded (part ∷ parts) cells ≡ get_or cells 0 Null ∷ padded parts (drop 1 cells)
padded_first part parts [] = refl
padded_first part parts (cell ∷ cells) = refl

pub padded_more : (parts : List KeyPart) (cells : List Cell) (i : ℕ) (d : KeyPart) → i < length parts →
    padded (map part_of (drop i parts)) (drop i cells) ≡ get_or cells i Null ∷ padded (map part_of (drop (i + 1) parts)) (drop (i + 1) cells)
padded_more parts cells i d within =
    let rest = map part_of (drop (i + 1) parts) in
    ap (λ ps. padded (map part_of ps) (drop i cells)) (drop_more parts i d within)
    ∙ (padded_first (part_of (get_or parts i d)) rest (drop i cells)
    ∙ (ap (λ c. c ∷ padded rest (drop 1 (drop i cells))) (get_or-drop i cells 0 Null ∙ ap (λ n. get_or cells n Null) (add-zero i))
    ∙ ap (λ cs. get_or cells i Null ∷ padded rest cs) (drop-drop 1 i cells)))

pub padded_at_end : (parts : List KeyPart) (cells : List Cell) (i : ℕ) → length parts ≤ i → padded (map part_of (drop i parts)) (drop i cells) ≡ []
padded_at_end parts cells i h = ap (λ ps. padded (map part_of ps) (drop i cells)) (drop_all i parts h)

module _ (parts : List KeyPart) (a cells : List Cell) (i : ℕ) (d : KeyPart) (o t : Ordering) (within : i < length parts) (here : o ≡ value_side (part_of (get_or parts i d)) a (get_or cells i Null)) (so_far : probe_cmp (map part_of (drop i parts)) a (padded (map part_of (drop i parts)) (drop i cells)) ≡ t) where
  first_value : probe_cmp (part_of (get_or parts i d) ∷ map part_of (drop (i + 1) parts)) a (get_or cells i Null ∷ padded (map part_of (drop (i + 1) parts)) (drop (i + 1) cells)) ≡ t
  first_value =
      ap (λ cs. probe_cmp (part_of (get_or parts i d) ∷ map part_of (drop (i + 1) parts)) a cs) (sym (padded_more parts cells i d within))
      ∙ (ap (λ ps. probe_cmp (map part_of ps) a (padded (map part_of (drop i parts)) (drop i cells))) (sym (drop_more parts i d within)) ∙ so_far)

  pub values_differ : (o ≡ Equal → ⊥) → o ≡ t
  values_differ h = probe_differs (part_of (get_or parts i d) ∷ map part_of (drop (i + 1) parts)) a (get_or cells i Null ∷ padded (map part_of (drop (i + 1) parts)) (drop (i + 1) cells)) 0 (part_of d) Null o t (omega arith) (omega arith) here first_value h

  pub values_agree : o ≡ Equal → probe_cmp (map part_of (drop (i + 1) parts)) a (padded (map part_of (drop (i + 1) parts)) (drop (i + 1) cells)) ≡ t
  values_agree h = probe_agrees (part_of (get_or parts i d) ∷ map part_of (drop (i + 1) parts)) a (get_or cells i Null ∷ padded (map part_of (drop (i + 1) parts)) (drop (i + 1) cells)) 0 (part_of d) Null o t (omega arith) (omega arith) here first_value h

pub values_at_end : (parts : List KeyPart) (a cells : List Cell) (i : ℕ) (t : Ordering) → length parts ≤ i → probe_cmp (map part_of (drop i parts)) a (padded (map part_of (drop i parts)) (drop i cells)) ≡ t → Equal ≡ t
values_at_end parts a cells i t h e = sym (ap (λ ps. probe_cmp (map part_of ps) a (padded (map part_of (drop i parts)) (drop i cells))) (drop_all i parts h)) ∙ e

-- leading values are compared with as many parts, if there are
leading_parts : (parts : List KeyPart) (a : List Cell) (values : List Value) →
    probe_cmp (map part_of (take (length values) parts)) a (padded (map part_of (take (length values) parts)) (map value_cell values)) ≡ probe_cmp (map part_of parts) a (map value_cell values)
leading_parts [] a [] = refl
leading_parts [] a (value ∷ values) = refl
leading_parts (part ∷ parts) a [] = refl
leading_parts (part ∷ parts) a (value ∷ values) = ap (ordering_then (value_side (part_of part) a (value_cell value))) (leading_parts parts a values)

module _ (parts : List KeyPart) (a : List Cell) (values : List Value) (s : Sought) (same : map value_cell values ≡ s.cells) where
  pub seeks_leading : (front : List KeyPart) → front ≡ take (length values) parts → s.leading ≡ true →
      probe_cmp (map part_of front) a (padded (map part_of front) (map value_cell values)) ≡ probe_cmp (map part_of parts) a (sought (map part_of parts) s)
  seeks_leading front e h =
      ap (λ ps. probe_cmp (map part_of ps) a (padded (map part_of ps) (map value_cell values))) e
      ∙ (leading_parts parts a values
      ∙ ap (probe_cmp (map part_of parts) a) (same ∙ sym (ap (λ b. cond b s.cells (padded (map part_of parts) s.cells)) h)))

  pub seeks_whole : s.leading ≡ false →
      probe_cmp (map part_of parts) a (padded (map part_of parts) (map value_cell values)) ≡ probe_cmp (map part_of parts) a (sought (map part_of parts) s)
  seeks_whole h = ap (probe_cmp (map part_of parts) a) (ap (padded (map part_of parts)) same ∙ sym (ap (λ b. cond b s.cells (padded (map part_of parts) s.cells)) h))
