-- What adding and dropping an index answers and leaves.
use Rattle.std.specs.Prelude.{◌≡◌, ℕ, ◌+◌, ◌<◌, ◌≤◌, ◌==◌, cond, List, [], ◌∷◌, ◌++◌, length, map, find, remove, IsTrue, Option, Some, None, slice_index_or}
use Rattle.std.specs.Option.{option_map_or}
use Rattle.std.specs.declared.cmp.Ordering.{Ordering}
use Rattle.std.specs.Ordering.{is_eq}
use Rattle.list_model.specs.Place.{stable_sorted}
use Rattle.container_model.specs.declared.handle.Handle.{Handle}
use Rattle.container_model.specs.declared.handle.Entry.{Entry}
use Rattle.container_model.specs.declared.handle.Spec.{Spec}
use Rattle.container_model.specs.declared.handle.Kind.{Kind}
use Rattle.container_model.specs.declared.refusal.Why.{Why}
use Rattle.container_model.specs.declared.refusal.Why.TheVariants.{Definition, Clash}
use Rattle.container_model.specs.State.{State, compare_of, has_key_kind, is_sorted_kind}
use Rattle.container_model.specs.Change.{spent}

-- the list of a new index: in the order of its key, equal ones in that of insertion, or in that of insertion alone
abbrev pub new_list : {R : Type 0} → (R → R → Ordering) → List (Entry R) → Kind → List Handle
new_list order entries kind =
    cond (is_sorted_kind kind) (stable_sorted (compare_of order entries) (map (λ e. e.handle) entries)) (map (λ e. e.handle) entries)

-- of records after others, the first that has the key of one before it, and that one
abbrev pub clash_from : {R : Type 0} → (R → R → Ordering) → (before after : List (Entry R)) → Option (Handle × Handle)
clash_from order before [] = None
clash_from order before (e ∷ es) =
    option_map_or (λ d. Some (d.handle, e.handle)) (find (λ d. is_eq (order d.row e.row)) before) (clash_from order (before ++ e ∷ []) es)

-- the two records of one key that a new index may not have
abbrev pub clash : {E R : Type 0} → (E → ℕ → R → R → Ordering) → State E R → Spec → E → Option (Handle × Handle)
clash order s spec keys = cond spec.unique (clash_from (order keys (length s.specs)) [] s.entries) None

-- why an index may not be added, or `None`
abbrev pub add_index_refusal : {E R : Type 0} → (E → ℕ → R → R → Ordering) → State E R → Spec → E → Option Why
add_index_refusal order s spec keys =
    cond (length s.specs == s.most) (Some Definition) (option_map_or (λ pair. Some (Clash pair.0 pair.1)) (clash order s spec keys) (spent s))

-- the container with one index more, the last
abbrev pub with_index : {E R : Type 0} → (E → ℕ → R → R → Ordering) → State E R → Spec → E → State E R
with_index order s spec keys =
    record s {
      keys = keys;
      specs = s.specs ++ spec ∷ [];
      writes = s.writes + 1;
      lists = s.lists ++ new_list (order keys (length s.specs)) s.entries spec.kind ∷ [];
    }

-- why an index may not be dropped, or `None`
abbrev pub drop_index_refusal : {E R : Type 0} → State E R → Option Why
drop_index_refusal s = cond (length s.specs == 1) (Some Definition) (spent s)

-- the container without an index; those after it move up by one
abbrev pub without_index : {E R : Type 0} → State E R → ℕ → E → State E R
without_index s index keys = record s { keys = keys; specs = remove s.specs index; writes = s.writes + 1; lists = remove s.lists index }

-- at each of these indices that has a key, this is said of it
abbrev pub EachKeyed : (ℕ → Type 0) → List Spec → Type 0
EachKeyed P specs = (k : ℕ) (d : Spec) → k < length specs → IsTrue (has_key_kind (slice_index_or specs k d).kind) → P k

-- the keys are the same at every index, where one is added
abbrev pub KeepsEach : {A : Type 0} → (old new : ℕ → A) → List Spec → Type 0
KeepsEach old new specs = EachKeyed (λ k. new k ≡ old k) specs

-- the keys are the same at every index that stays where one goes, each at its new number
pub record KeepsRest {A : Type 0} (old new : ℕ → A) (specs : List Spec) (gone : ℕ) : Type 0 where
  pub before : EachKeyed (λ k. k < gone → new k ≡ old k) specs
  pub after : (k : ℕ) (d : Spec) → gone ≤ k → k + 1 < length specs → IsTrue (has_key_kind (slice_index_or specs (k + 1) d).kind) → new k ≡ old (k + 1)
