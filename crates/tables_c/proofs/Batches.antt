-- Records put in one after another.
use Rattle.std.proofs.Common.{◌≡◌, ◌⊎◌, ℕ, suc, List, [], ◌∷◌, ◌++◌, Ok, Err, inl, inr, refl, ap, sym, ◌∙◌, subst, append_assoc}
use Rattle.std.proofs.lemmas.List.{append-nil}
use Rattle.std.specs.Prelude.{◌==◌, Result}
use Rattle.container_model.specs.declared.handle.Handle.{Handle}
use Rattle.table_terms.specs.Table.{TableState}
use Rattle.tables_c.specs.Batch.{InsertsMany, cells_cut, next_one, texts_cut}
use Rattle.tables_c.specs.Rows.{Inserts, handle_of, status_told}
use Rattle.tables_c.specs.declared.cells.RowCell.{RowCell}
use Rattle.tables_c.specs.declared.told.RowHandle.{RowHandle}
use Rattle.tables_c.specs.declared.told.Told.{Told}
use Rattle.tables_c.specs.declared.status.TheConstants.{MEMORY, OK}

abbrev told_or : Told → Result Handle Told → Told
told_or told (Ok h) = told
told_or told (Err other) = other

err_told : (told : Told) → ◌≡◌ {A = Result Handle Told} (Err told) (Err (status_told MEMORY)) → told ≡ status_told MEMORY
err_told told e = ap (told_or told) e

ok_is_no_error : (h : Handle) (told : Told) → Ok h ≡ Err told → ⊥
ok_is_no_error h told e = cc

-- what came of one record: it is in, or it was refused
pub is_in : (t : TableState) (step : Result Handle Told × TableState) (h : Handle) (after : TableState) → Inserts t step (Ok h) after → step ≡ (Ok h, after)
is_in t step h after (inl does) = ap (λ r. (r, step.1)) (sym does.0) ∙ ap (λ a. (Ok h, a)) (sym does.1)
is_in t step h after (inr stays) = absurd (ok_is_no_error h (status_told MEMORY) stays.0)

pub is_refused : (t : TableState) (step : Result Handle Told × TableState) (told : Told) (after : TableState) → Inserts t step (Err told) after
    → (step ≡ (Err told, after)) ⊎ ((told ≡ status_told MEMORY) × (after ≡ t))
is_refused t step told after (inl does) = inl (ap (λ r. (r, step.1)) (sym does.0) ∙ ap (λ a. (Err told, a)) (sym does.1))
is_refused t step told after (inr stays) = inr (err_told told stays.0, stays.1)

module _ (width all : ℕ) (start : TableState) (cs0 : List RowCell) (texts0 : List ℕ) where
  -- some were put in, and so many are left: what comes of these comes of all
  abbrev pub GoesOn : ℕ → TableState → List RowCell → List ℕ → List RowHandle → Type 0
  GoesOn left t cs texts done =
      (hs : List RowHandle) (told : Told) (after : TableState) → InsertsMany width left t cs texts hs told after → InsertsMany width all start cs0 texts0 (done ++ hs) told after

  pub goes_more : (left many : ℕ) (t next : TableState) (cs : List RowCell) (texts : List ℕ) (done : List RowHandle) (h : RowHandle) → left ≡ suc many → GoesOn left t cs texts done
      → next_one width many t cs texts ≡ (Ok (handle_of h), next)
      → GoesOn many next (cells_cut (many == 0) width cs).1 (texts_cut (many == 0) (cells_cut (many == 0) width cs).0 texts).1 (done ++ h ∷ [])
  goes_more left many t next cs texts done h e on is = λ hs told after rest.
      subst (λ hs. InsertsMany width all start cs0 texts0 hs told after) (sym (append_assoc done (h ∷ []) hs))
      (on (h ∷ hs) told after (subst (λ n. InsertsMany width n t cs texts (h ∷ hs) told after) (sym e) (next, is, rest)))

  -- the same of equal lists
  pub goes_along : (many many' : ℕ) (next : TableState) (cs cs' : List RowCell) (texts texts' : List ℕ) (done done' : List RowHandle) → many ≡ many' → cs' ≡ cs → texts' ≡ texts → done' ≡ done
      → GoesOn many next cs texts done → GoesOn many' next cs' texts' done'
  goes_along many many' next cs cs' texts texts' done done' em ec et ed on =
      subst (λ d. GoesOn many' next cs' texts' d) (sym ed)
      (subst (λ t. GoesOn many' next cs' t done) (sym et)
      (subst (λ c. GoesOn many' next c texts done) (sym ec) (subst (λ m. GoesOn m next cs texts done) em on)))

  pub goes_stop : (left many : ℕ) (t after : TableState) (cs : List RowCell) (texts : List ℕ) (done : List RowHandle) (told : Told) → left ≡ suc many → GoesOn left t cs texts done
      → (next_one width many t cs texts ≡ (Err told, after)) ⊎ ((told ≡ status_told MEMORY) × (after ≡ t))
      → InsertsMany width all start cs0 texts0 done told after
  goes_stop left many t after cs texts done told e on why =
      subst (λ hs. InsertsMany width all start cs0 texts0 hs told after) (append-nil done)
      (on [] told after (subst (λ n. InsertsMany width n t cs texts [] told after) (sym e) why))

  pub goes_end : (left : ℕ) (t : TableState) (cs : List RowCell) (texts : List ℕ) (done : List RowHandle) → left ≡ 0 → GoesOn left t cs texts done
      → InsertsMany width all start cs0 texts0 done (status_told OK) t
  goes_end left t cs texts done e on =
      subst (λ hs. InsertsMany width all start cs0 texts0 hs (status_told OK) t) (append-nil done)
      (on [] (status_told OK) t (subst (λ n. InsertsMany width n t cs texts [] (status_told OK) t) (sym e) (refl, refl)))
