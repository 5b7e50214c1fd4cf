-- A start finds the same table, whichever of the bytes that a crash might have left before stand at each name.
use Rattle.std.proofs.Common.{◌≡◌, ◌≢◌, ◌⊎◌, inl, inr, ⊎_elim, ℕ, ◌≤◌, List, Option, Some, None, refl, sym, ap, subst, ◌∙◌, arith}
use Rattle.checked_log.specs.Whole.{ended, last_link, whole}
use Rattle.checked_log.specs.declared.recovery.Link.{Link}
use Rattle.table_folder.specs.Compacting.{AfterBound, AreDue, IsCompacting, MayBeMade, stays}
use Rattle.table_folder.specs.Disk.{Image, nothing}
use Rattle.table_folder.specs.Found.{Declared, Finds, IsDue, mark_in}
use Rattle.table_folder.specs.Opened.{bytes_in}
use Rattle.table_folder.specs.Settled.{MayLeave, PutBound}
use Rattle.table_folder.specs.StateFile.{state_file}
use Rattle.table_folder.specs.declared.name.FileName.{FileName}
use Rattle.table_folder.specs.declared.name.FileName.TheVariants.{Log, LogDraft, Mark, State, StateDraft}
use Rattle.table_terms.specs.Table.{TableState}
use Rattle.table_folder.proofs.Finding.{absent, compacting_finds, is_log, tells}
use Rattle.table_folder.proofs.Judging.{whole_is_not_later}

same_due : (d : Declared) (t : TableState) (last : Link) (files : Image) → IsDue d t last files → AreDue d t last nothing (stays files) files
same_due d t last files due image left =
    let each : (n : FileName) → files n ≡ image n = λ n. ⊎_elim (λ same. sym same) (λ more. ⊎_elim (λ none. absurd none) (λ same. sym same) more) (left n) in
    let same : files ≡ image = λ i n. each n i in
    subst (IsDue d t last) same due

-- where a crash leaves nothing but what is seen, and no line stands behind the whole ones
pub settled_due : (d : Declared) (t : TableState) (last : Link) (files : Image) (finds : Finds d t last files) → finds.goes_on.recovered.behind.lines ≡ 0 → finds.from.state ≢ Some last.number
    → AreDue d t last nothing (stays files) files
settled_due d t last files finds none older =
    let log = bytes_in (files (Log finds.from.state)) in
    let told = tells finds.from.link last (mark_in (files Mark)) log finds.goes_on.recovered finds.goes_on.opens finds.goes_on.is_last in
    let ends : (last_link finds.from.link (whole finds.from.link (ended log))).number ≤ last.number = omega (arith, ap (λ (l : Link). l.number) told.is_last) in
    same_due d t last files (record { finds = finds; not_later = whole_is_not_later d.digest finds.from.state log finds.from.link last ends (sym told.behind ∙ none); older = older })

module _ (d : Declared) (t : TableState) (last : Link) (was has : FileName → Option (List ℕ) → Type 0) (files : Image) (due : AreDue d t last was has files) where
  abbrev state : List ℕ
  state = state_file d.types last.digest t

  -- what is seen, or what may be left
  abbrev Taken : FileName → Option (List ℕ) → Type 0
  Taken n c = (c ≡ files n) ⊎ MayLeave was has n c

  -- while the state is put, a name comes from one of these
  put_comes : (n : FileName) (c : Option (List ℕ)) → PutBound (MayLeave was has) state n c → (x : Option (List ℕ)) × Taken n x × PutBound (λ m y. y ≡ x) state n c
  put_comes n c (inl left) = (c, inr left, inl refl)
  put_comes n c (inr changed) = (files n, inl refl, inr changed)

  -- and so it does once the state is there
  after_comes : (n : FileName) (c : Option (List ℕ)) → AfterBound MayBeMade d.digest last (MayLeave was has) files state n c
      → (x : Option (List ℕ)) × Taken n x × AfterBound MayBeMade d.digest last (λ m y. y ≡ x) (λ m. x) state n c
  after_comes State c is = (files State, inl refl, is)
  after_comes StateDraft c is = (files StateDraft, inl refl, tt)
  after_comes LogDraft c is = (files LogDraft, inl refl, tt)
  after_comes (Log begin) c (inl behind) = (files (Log begin), inl refl, inl behind)
  after_comes (Log begin) c (inr (other, (inl left))) = (c, inr left, inr (other, inl refl))
  after_comes (Log begin) c (inr (other, (inr gone))) = (files (Log begin), inl refl, inr (other, inr gone))
  after_comes n c left = (c, inr left, refl)

  at_name : (before : Image) (n : FileName) (c : Option (List ℕ)) → AfterBound MayBeMade d.digest last (λ m y. y ≡ before n) (λ m. before n) state n c
      → AfterBound MayBeMade d.digest last (stays before) before state n c
  at_name before StateDraft c is = tt
  at_name before LogDraft c is = tt
  at_name before n c is = is

  -- so a start finds the table in all that a crash leaves
  pub each_finds : (image : Image) → IsCompacting d.digest last (MayLeave was has) files state image → Finds d t last image
  each_finds image (inl put) =
      let comes = λ (n : FileName). put_comes n (image n) (put n) in
      compacting_finds d t last (λ n. (comes n).0) (due (λ n. (comes n).0) (λ n. (comes n).1)) image (inl (λ n. (comes n).2))
  each_finds image (inr after) =
      let comes = λ (n : FileName). after_comes n (image n) (after n) in
      let before : Image = λ n. (comes n).0 in
      compacting_finds d t last before (due before (λ n. (comes n).1)) image (inr (λ n. at_name before n (image n) (comes n).2))

  -- whatever may be left where the log behind the state will be, it is none
  taken_here : (c : Option (List ℕ)) → MayLeave was has (Log (Some last.number)) c → (n : FileName) → (n ≡ Log (Some last.number)) ⊎ (n ≢ Log (Some last.number))
      → (x : Option (List ℕ)) × Taken n x × (n ≡ Log (Some last.number) → x ≡ c)
  taken_here c left n (inl same) = (c, inr (subst (λ m. MayLeave was has m c) (sym same) left), λ e. refl)
  taken_here c left n (inr other) = (files n, inl refl, λ e. absurd (other e))

  pub no_log : (c : Option (List ℕ)) → MayLeave was has (Log (Some last.number)) c → c ≡ None
  no_log c left =
      let taken = λ (n : FileName). taken_here c left n (is_log n (Some last.number)) in
      sym ((taken (Log (Some last.number))).2 refl) ∙ absent d t last (λ n. (taken n).0) (due (λ n. (taken n).0) (λ n. (taken n).1))
