-- A handle is live until a write takes out its record, and then stale for ever.
use Rattle.std.proofs.Common.{◌≡◌, ℕ, ◌+◌, ◌≤◌, Bool, true, false, cond, not, ◌&&◌, ◌==◌, List, [], ◌∷◌, ◌++◌, refl, ap, sym, ◌∙◌, subst, arith, Option, Some, None}
use Rattle.std.specs.Prelude.{filter, find, is_some, option_map}
use Rattle.std.specs.List.{AllByRecursion}
use Rattle.std.specs.Option.{option_map_or}
use Rattle.std.specs.Ordering.{is_eq}
use Rattle.std.specs.declared.cmp.Ordering.{Ordering}
use Rattle.std.proofs.lemmas.Bool.Decides.{nat_tests}
use Rattle.container_model.specs.declared.handle.Handle.{Handle}
use Rattle.container_model.specs.declared.handle.Entry.{Entry}
use Rattle.container_model.specs.declared.refusal.Why.{Why}
use Rattle.container_model.specs.State.{State, row_of, is_handle, IsState}
use Rattle.container_model.specs.Find.{is_live, probe_side}
use Rattle.container_model.specs.Insert.{ban, new_handle}
use Rattle.container_model.specs.Change.{replace_refusal, with_row, with_erased, with_replaced}
use Rattle.container_model.specs.Undone.{with_undone, with_modified_or_undone}
use Rattle.container_model.specs.Life.{Write, Inserted, Replaced, Modified, ModifiedOrUndone, Erased, KeyErased, Cleared, Relocated, Reversed, Sorted, Rearranged, IndexAdded, IndexDropped, after, LivesUntilTakenOut, StaysStale, IsOfPastWrite}
use Rattle.container_model.proofs.Found.{is_handle_same}

and_false : (b : Bool) → (b && false) ≡ false
and_false true = refl
and_false false = refl

-- the handle of the next insertion is no older one
no_later : (b : Bool) (m n : ℕ) → m ≤ n → (b && (m == n + 1)) ≡ false
no_later true m n le = grind (arith, nat_tests)
no_later false m n le = refl

module _ {R : Type 0} (h : Handle) where
  -- whether some record has the handle
  abbrev Live : List (Entry R) → Bool
  Live entries = is_some (row_of entries h)

  -- what the first record and the rest say
  first_or : (b : Bool) (x y : Entry R) (l l' : List (Entry R)) → Live l ≡ Live l' → is_some (option_map (λ e. e.row) (cond b (Some x) (find (λ e. is_handle h e.handle) l))) ≡ is_some (option_map (λ e. e.row) (cond b (Some y) (find (λ e. is_handle h e.handle) l')))
  first_or true x y l l' rest = refl
  first_or false x y l l' rest = rest

  -- another row in one record
  live-with_row : (g : Handle) (row : R) (entries : List (Entry R)) → Live (with_row g row entries) ≡ Live entries
  live-with_row g row [] = refl
  live-with_row g row (e ∷ es) = by_test (live-with_row g row es) (is_handle g e.handle)
    where
      by_test : Live (with_row g row es) ≡ Live es → (b : Bool) → Live (cond b (record e { row = row }) e ∷ with_row g row es) ≡ Live (e ∷ es)
      by_test rest true = first_or (is_handle h e.handle) (record e { row = row }) e (with_row g row es) es rest
      by_test rest false = first_or (is_handle h e.handle) e e (with_row g row es) es rest

  -- a record more
  live-append : (e : Entry R) (entries : List (Entry R)) → Live entries ≡ true → Live (entries ++ e ∷ []) ≡ true
  live-append e [] live = cc
  live-append e (x ∷ xs) live = by_test (live-append e xs) (is_handle h x.handle) live
    where
      by_test : (Live xs ≡ true → Live (xs ++ e ∷ []) ≡ true) → (b : Bool) → is_some (option_map (λ (y : Entry R). y.row) (cond b (Some x) (find (λ y. is_handle h y.handle) xs))) ≡ true → is_some (option_map (λ (y : Entry R). y.row) (cond b (Some x) (find (λ y. is_handle h y.handle) (xs ++ e ∷ [])))) ≡ true
      by_test rest true live = refl
      by_test rest false live = rest live

  stale-append : (e : Entry R) (entries : List (Entry R)) → is_handle h e.handle ≡ false → Live entries ≡ false → Live (entries ++ e ∷ []) ≡ false
  stale-append e [] other stale = ap (λ b. is_some (option_map (λ (y : Entry R). y.row) (cond b (Some e) None))) other
  stale-append e (x ∷ xs) other stale = by_test (stale-append e xs other) (is_handle h x.handle) stale
    where
      by_test : (Live xs ≡ false → Live (xs ++ e ∷ []) ≡ false) → (b : Bool) → is_some (option_map (λ (y : Entry R). y.row) (cond b (Some x) (find (λ y. is_handle h y.handle) xs))) ≡ false → is_some (option_map (λ (y : Entry R). y.row) (cond b (Some x) (find (λ y. is_handle h y.handle) (xs ++ e ∷ [])))) ≡ false
      by_test rest true stale = cc
      by_test rest false stale = rest stale

  -- those records alone whose handles pass
  live-only : (keep : Handle → Bool) (entries : List (Entry R)) → Live (filter (λ e. keep e.handle) entries) ≡ (Live entries && keep h)
  live-only keep [] = refl
  live-only keep (e ∷ es) = by_tests (live-only keep es) (is_handle h e.handle) (keep e.handle) refl (λ t. ap keep (is_handle_same h e.handle t))
    where
      first : (b : Bool) → is_handle h e.handle ≡ b → (l : List (Entry R)) → Live (e ∷ l) ≡ is_some (option_map (λ (y : Entry R). y.row) (cond b (Some e) (find (λ y. is_handle h y.handle) l)))
      first b t l = ap (λ x. is_some (option_map (λ (y : Entry R). y.row) (cond x (Some e) (find (λ y. is_handle h y.handle) l)))) t

      by_tests : Live (filter (λ x. keep x.handle) es) ≡ (Live es && keep h) → (b c : Bool) → is_handle h e.handle ≡ b → (b ≡ true → keep h ≡ c) → Live (cond c (e ∷ filter (λ x. keep x.handle) es) (filter (λ x. keep x.handle) es)) ≡ (Live (e ∷ es) && keep h)
      by_tests rest true true t same = first true t (filter (λ x. keep x.handle) es) ∙ sym (ap (λ x. x && keep h) (first true t es) ∙ same refl)
      by_tests rest true false t same =
          rest ∙ (ap (λ x. Live es && x) (same refl) ∙ (and_false (Live es) ∙ sym (ap (λ x. x && keep h) (first true t es) ∙ same refl)))
      by_tests rest false true t same = first false t (filter (λ x. keep x.handle) es) ∙ (rest ∙ sym (ap (λ x. x && keep h) (first false t es)))
      by_tests rest false false t same = rest ∙ sym (ap (λ x. x && keep h) (first false t es))

  -- a live handle is one of the records
  stamp_within : (writes : ℕ) (entries : List (Entry R)) → AllByRecursion (λ e. e.handle.stamp ≤ writes) entries → Live entries ≡ true → h.stamp ≤ writes
  stamp_within writes [] stamps live = cc
  stamp_within writes (e ∷ es) stamps live = by_test (stamp_within writes es stamps.1) (is_handle h e.handle) refl live
    where
      by_test : (Live es ≡ true → h.stamp ≤ writes) → (b : Bool) → is_handle h e.handle ≡ b → is_some (option_map (λ (y : Entry R). y.row) (cond b (Some e) (find (λ y. is_handle h y.handle) es))) ≡ true → h.stamp ≤ writes
      by_test rest true same live = subst (λ g. g.stamp ≤ writes) (sym (is_handle_same h e.handle same)) stamps.0
      by_test rest false same live = rest live

module _ {E R P : Type 0} (order : E → ℕ → R → R → Ordering) (probe_order : E → ℕ → R → P → Ordering) where
  -- a change that settles or is undone leaves each record its handle
  live-undone : (s : State E R) (g : Handle) (change undo : R → R) (h : Handle) → is_live (with_modified_or_undone order s g change undo) h ≡ is_live s h
  live-undone s g change undo h = by_row (row_of s.entries g)
    where
      by_why : (row : R) (o : Option Why) → is_live (option_map_or (λ why. with_undone s g (undo row)) o (with_replaced order s g (change row))) h ≡ is_live s h
      by_why row None = live-with_row h g (change row) s.entries
      by_why row (Some why) = live-with_row h g (undo row) s.entries

      by_row : (o : Option R) → is_live (option_map_or (λ row. option_map_or (λ why. with_undone s g (undo row)) (replace_refusal order s g (change row)) (with_replaced order s g (change row))) o s) h ≡ is_live s h
      by_row None = refl
      by_row (Some row) = by_why row (replace_refusal order s g (change row))

  pub lives : (s : State E R) → LivesUntilTakenOut order probe_order s
  lives s (Inserted at row) h live = live-append h (record { handle = new_handle s; row = row }) s.entries live
  lives s (Replaced g row) h live = live-with_row h g row s.entries ∙ live
  lives s (Modified g row) h live = by_ban (ban order s (Some g) row)
    where
      by_ban : (o : Option (ℕ × Handle)) → is_live (option_map_or (λ at. with_erased s g) o (with_replaced order s g row)) h ≡ not (is_some o && is_handle g h)
      by_ban None = live-with_row h g row s.entries ∙ live
      by_ban (Some at) = live-only h (λ k. not (is_handle g k)) s.entries ∙ ap (λ b. b && not (is_handle g h)) live
  lives s (ModifiedOrUndone g change undo) h live = live-undone s g change undo h ∙ live
  lives s (Erased g) h live = live-only h (λ k. not (is_handle g k)) s.entries ∙ ap (λ b. b && not (is_handle g h)) live
  lives s (KeyErased index probe) h live =
      live-only h (λ k. not (is_eq (probe_side probe_order s index probe k))) s.entries ∙ ap (λ b. b && not (is_eq (probe_side probe_order s index probe h))) live
  lives s Cleared h live = refl
  lives s (Relocated index place g) h live = live
  lives s (Reversed index) h live = live
  lives s (Sorted compare index) h live = live
  lives s (Rearranged index handles) h live = live
  lives s (IndexAdded spec keys) h live = live
  lives s (IndexDropped index keys) h live = live

  stale_after : (s : State E R) (w : Write E R P) (h : Handle) → h.stamp ≤ s.writes → is_live s h ≡ false → is_live (after order probe_order s w) h ≡ false
  stale_after s (Inserted at row) h le stale =
      stale-append h (record { handle = new_handle s; row = row }) s.entries (no_later (h.slot == (new_handle s).slot) h.stamp s.writes le) stale
  stale_after s (Replaced g row) h le stale = live-with_row h g row s.entries ∙ stale
  stale_after s (Modified g row) h le stale = by_ban (ban order s (Some g) row)
    where
      by_ban : (o : Option (ℕ × Handle)) → is_live (option_map_or (λ at. with_erased s g) o (with_replaced order s g row)) h ≡ false
      by_ban None = live-with_row h g row s.entries ∙ stale
      by_ban (Some at) = live-only h (λ k. not (is_handle g k)) s.entries ∙ ap (λ b. b && not (is_handle g h)) stale
  stale_after s (ModifiedOrUndone g change undo) h le stale = live-undone s g change undo h ∙ stale
  stale_after s (Erased g) h le stale = live-only h (λ k. not (is_handle g k)) s.entries ∙ ap (λ b. b && not (is_handle g h)) stale
  stale_after s (KeyErased index probe) h le stale =
      live-only h (λ k. not (is_eq (probe_side probe_order s index probe k))) s.entries ∙ ap (λ b. b && not (is_eq (probe_side probe_order s index probe h))) stale
  stale_after s Cleared h le stale = refl
  stale_after s (Relocated index place g) h le stale = stale
  stale_after s (Reversed index) h le stale = stale
  stale_after s (Sorted compare index) h le stale = stale
  stale_after s (Rearranged index handles) h le stale = stale
  stale_after s (IndexAdded spec keys) h le stale = stale
  stale_after s (IndexDropped index keys) h le stale = stale

  writes_rise : (s : State E R) (w : Write E R P) → s.writes ≤ (after order probe_order s w).writes
  writes_rise s (Inserted at row) = omega arith
  writes_rise s (Replaced g row) = omega arith
  writes_rise s (Modified g row) = by_ban (ban order s (Some g) row)
    where
      by_ban : (o : Option (ℕ × Handle)) → s.writes ≤ (option_map_or (λ at. with_erased s g) o (with_replaced order s g row)).writes
      by_ban None = omega arith
      by_ban (Some at) = omega arith
  writes_rise s (ModifiedOrUndone g change undo) = by_row (row_of s.entries g)
    where
      by_why : (row : R) (o : Option Why) → s.writes ≤ (option_map_or (λ why. with_undone s g (undo row)) o (with_replaced order s g (change row))).writes
      by_why row None = omega arith
      by_why row (Some why) = omega arith

      by_row : (o : Option R) → s.writes ≤ (option_map_or (λ row. option_map_or (λ why. with_undone s g (undo row)) (replace_refusal order s g (change row)) (with_replaced order s g (change row))) o s).writes
      by_row None = omega arith
      by_row (Some row) = by_why row (replace_refusal order s g (change row))
  writes_rise s (Erased g) = omega arith
  writes_rise s (KeyErased index probe) = omega arith
  writes_rise s Cleared = omega arith
  writes_rise s (Relocated index place g) = omega arith
  writes_rise s (Reversed index) = omega arith
  writes_rise s (Sorted compare index) = omega arith
  writes_rise s (Rearranged index handles) = omega arith
  writes_rise s (IndexAdded spec keys) = omega arith
  writes_rise s (IndexDropped index keys) = omega arith

  pub stays_stale : (s : State E R) → StaysStale order probe_order s
  stays_stale s [] h le stale = stale
  stays_stale s (w ∷ ws) h le stale = stays_stale (after order probe_order s w) ws h (omega (arith, le, writes_rise s w)) (stale_after s w h le stale)

pub is_of_past_write : {E R : Type 0} (has_key : E → ℕ → Bool) (order : E → ℕ → R → R → Ordering) (s : State E R) → IsState has_key order s → IsOfPastWrite s
is_of_past_write has_key order s state h live = stamp_within h s.writes s.entries state.stamps live
