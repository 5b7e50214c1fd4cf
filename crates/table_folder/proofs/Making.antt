-- Runs of calls that leave each name as it was before, but for files that are made.
use Rattle.std.proofs.Common.{inl, inr, ⊎_elim, ◌≡◌, ◌⊎◌, ℕ, List, [], Option, Some, None, ap, sym, ◌∙◌}
use Rattle.table_folder.specs.Declaring.{DeclaredBound}
use Rattle.table_folder.specs.Disk.{Elapses, Image, IsLeft, IsPut, Leads, Looks, anything, exactly, one, put_there, two}
use Rattle.table_folder.specs.Settled.{Runs, Within}
use Rattle.table_folder.specs.Settling.{AsBefore, IsUnseen, put_unseen}
use Rattle.table_folder.specs.declared.name.FileName.{FileName}
use Rattle.table_folder.specs.declared.name.FileName.TheVariants.{Declaration, DeclarationDraft, Log, Mark}
use Rattle.table_folder.proofs.Moments.{then, weaker}
use Rattle.table_folder.proofs.Running.{run_from, run_on}

-- what is within one bound is within another
pub within_more : (was has bound more : FileName → Option (List ℕ) → Type 0) → Within was has bound → ((n : FileName) (c : Option (List ℕ)) → bound n c → more n c) → Within was has more
within_more was has bound more within fits = record { older = λ n c left. fits n c (within.older n c left); newer = λ n c left. fits n c (within.newer n c left) }

pub within_before : (was has bound : FileName → Option (List ℕ) → Type 0) → Within was has bound → (n : FileName) (c : Option (List ℕ)) → AsBefore was has n c → bound n c
within_before was has bound within n c = ⊎_elim (within.older n c) (within.newer n c)

-- each name is as it was
pub as_before : (was has : FileName → Option (List ℕ) → Type 0) → Within was has (AsBefore was has)
as_before was has = record { older = λ n c left. inl left; newer = λ n c left. inr left }

pub unseen_same : (old new : FileName → Option (Option (List ℕ))) (n : FileName) → new n ≡ old n → IsUnseen new n → IsUnseen old n
unseen_same old new n same unseen x is = unseen x (same ∙ is)

-- no file was found
pub none_found : {F : Type 0} (contents : F → Option (List ℕ)) (seen : FileName → Option (Option (List ℕ))) (name n : FileName) (found : Option (F × ℕ)) → found ≡ None → Looks contents (seen name) found
    → n ≡ name → IsUnseen seen n
none_found contents seen name n None is looks same = λ x there. looks x (sym (ap seen same) ∙ there)
none_found contents seen name n (Some f) is looks same = cc

pub mark_no_log : (n : FileName) (begin : Option ℕ) → n ≡ Mark → n ≡ Log begin → ⊥
mark_no_log n begin mark log = cc

module _ {D : Type 0} (was has : D → FileName → Option (List ℕ) → Type 0) (moment : D → ℕ) (left_since : D → ℕ → Image → Type 0) where
  -- a run behind another
  pub runs_joined : (old mid new : D) (bound more : FileName → Option (List ℕ) → Type 0) → Runs was has moment left_since old mid bound → Runs was has moment left_since mid new more
      → ((n : FileName) (c : Option (List ℕ)) → more n c → bound n c) → Runs was has moment left_since old new bound
  runs_joined old mid new bound more first second fits = record {
    within = within_more (was new) (has new) more bound second.within fits;
    any_moment = then moment left_since old mid new _ first.any_moment (weaker moment left_since mid new _ _ second.any_moment (λ image all n. fits n (image n) (all n)));
  }

  -- one call
  pub run_once : (old new : D) (bound : FileName → Option (List ℕ) → Type 0) (changed : FileName → Type 0) (newly : FileName → Option (List ℕ) → Type 0)
      → ((image : Image) → left_since old (moment old) image → IsLeft (was old) (has old) image) → Leads changed newly (was old) (has old) (was new) (has new)
      → Elapses (moment old) (moment new) (left_since old) (left_since new) (IsLeft (was new) (has new)) → ((n : FileName) (c : Option (List ℕ)) → AsBefore (was old) (has old) n c → bound n c)
      → ((n : FileName) (c : Option (List ℕ)) → newly n c → bound n c) → Runs was has moment left_since old new bound
  run_once old new bound changed newly only_now leads time before fits =
      run_on was has moment left_since old old new bound changed newly
      (run_from was has moment left_since old bound only_now (within_more (was old) (has old) (AsBefore (was old) (has old)) bound (as_before (was old) (has old)) before)) leads time fits

  -- an empty file is made where none was seen
  pub made : (seen : FileName → Option (Option (List ℕ))) (old new : D) (name : FileName) → ((image : Image) → left_since old (moment old) image → IsLeft (was old) (has old) image)
      → Leads (one name) (put_there name (exactly (Some []))) (was old) (has old) (was new) (has new) → Elapses (moment old) (moment new) (left_since old) (left_since new) (IsLeft (was new) (has new))
      → ((n : FileName) → n ≡ name → IsUnseen seen n) → Runs was has moment left_since old new (λ n c. AsBefore (was old) (has old) n c ⊎ put_unseen seen name n c)
  made seen old new name only_now leads time unseen =
      run_once old new (λ n c. AsBefore (was old) (has old) n c ⊎ put_unseen seen name n c) (one name) (put_there name (exactly (Some []))) only_now leads time (λ n c before. inl before)
      (λ n c there. inr (there.0, unseen n there.0, there.1))

  -- a file is begun
  pub begun : (old new : D) (name : FileName) → ((image : Image) → left_since old (moment old) image → IsLeft (was old) (has old) image)
      → Leads (one name) (put_there name anything) (was old) (has old) (was new) (has new) → Elapses (moment old) (moment new) (left_since old) (left_since new) (IsLeft (was new) (has new))
      → Runs was has moment left_since old new (λ n c. AsBefore (was old) (has old) n c ⊎ one name n)
  begun old new name only_now leads time =
      run_once old new (λ n c. AsBefore (was old) (has old) n c ⊎ one name n) (one name) (put_there name anything) only_now leads time (λ n c before. inl before) (λ n c there. inr there.0)

  pub runs_wider : (old new : D) (bound more : FileName → Option (List ℕ) → Type 0) → Runs was has moment left_since old new bound
      → ((n : FileName) (c : Option (List ℕ)) → bound n c → more n c) → Runs was has moment left_since old new more
  runs_wider old new bound more run fits = record {
    within = within_more (was new) (has new) bound more run.within fits;
    any_moment = weaker moment left_since old new _ _ run.any_moment (λ image all n. fits n (image n) (all n));
  }

  -- the draft of a declaration is put at its name
  pub declared : (old mid new : D) (text : List ℕ) → Runs was has moment left_since old mid (λ n c. AsBefore (was old) (has old) n c ⊎ one DeclarationDraft n)
      → Leads (two DeclarationDraft Declaration) (IsPut DeclarationDraft Declaration (has mid)) (was mid) (has mid) (was new) (has new)
      → Elapses (moment mid) (moment new) (left_since mid) (left_since new) (IsLeft (was new) (has new)) → ((c : Option (List ℕ)) → has mid DeclarationDraft c → c ≡ Some text)
      → Runs was has moment left_since old new (DeclaredBound (was old) (has old) text)
  declared old mid new text first leads time whole =
      let bound : FileName → Option (List ℕ) → Type 0 = DeclaredBound (was old) (has old) text in
      run_on was has moment left_since old mid new bound (two DeclarationDraft Declaration) (IsPut DeclarationDraft Declaration (has mid))
      (runs_wider old mid (λ n c. AsBefore (was old) (has old) n c ⊎ one DeclarationDraft n) bound first (λ n c. ⊎_elim (λ before. inl before) (λ draft. inr (inl draft)))) leads time
      (λ n c. ⊎_elim (λ put. inr (inr (put.0, whole c put.1))) (λ gone. inr (inl gone.0)))
