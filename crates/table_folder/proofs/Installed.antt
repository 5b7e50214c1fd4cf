-- A table that is put in the place of all that a folder has of it.
use Rattle.std.proofs.Common.{◌≡◌, ◌≢◌, ◌⊎◌, inl, inr, ⊎_elim, ℕ, List, [], ◌∷◌, Option, Some, None, Result, Ok, Err, refl, sym, ap, subst, ◌∙◌, arith}
use Rattle.std.specs.Prelude.{OnOk}
use Rattle.checked_disk.specs.Plain.{plain_text}
use Rattle.checked_log.specs.Recover.{recovered_of, recovered_with}
use Rattle.checked_log.specs.declared.recovery.Link.{Link}
use Rattle.table_folder.specs.Declaring.{DeclaredBound}
use Rattle.table_folder.specs.Disk.{Image, IsIn, IsLeft, KeepsOthers, Lists, one, two}
use Rattle.table_folder.specs.Found.{Beginning, BeginsWith, Declared, Finds, IsTable, mark_in}
use Rattle.table_folder.specs.Installing.{IsCleared, IsGone, IsInstalled, IsLog, LacksThese, cleared_files}
use Rattle.table_folder.specs.Opened.{bytes_in}
use Rattle.table_folder.specs.Settled.{AreSettled, PutLeft, Sees, Within, put_files}
use Rattle.table_folder.specs.StateFile.{state_file}
use Rattle.table_folder.specs.declared.name.FileName.{FileName}
use Rattle.table_folder.specs.declared.name.FileName.TheVariants.{Declaration, DeclarationDraft, Log, Mark, State}
use Rattle.table_log.specs.Log.{replayed}
use Rattle.table_terms.specs.Table.{TableState}
use Rattle.table_folder.proofs.Finding.{opens_empty, same_or_not}

-- what follows of two facts, where a call succeeds
pub on_ok_two : {T E X Y Z : Type 0} (r : Result T E) → (X → Y → Z) → OnOk r X → OnOk r Y → OnOk r Z
on_ok_two (Ok x) both one other = both one other
on_ok_two (Err e) both one other = tt

-- ---- the logs

pub is_a_log : (begin : Option ℕ) (n : FileName) → n ≡ Log begin → IsLog n
is_a_log begin n is = subst IsLog (sym is) tt

module _ (files : Image) where
  -- a log is gone, or is among those that are still to go
  abbrev pub IsOnItsWay : (FileName → Option (Option (List ℕ))) → (FileName → Option (List ℕ) → Type 0) → List (Option ℕ) → Option ℕ → Type 0
  IsOnItsWay seen has rest begin = IsGone seen has (Log begin) ⊎ ((seen (Log begin) ≡ Some (files (Log begin))) × IsIn begin rest)

  begun_with : (seen : FileName → Option (Option (List ℕ))) (has : FileName → Option (List ℕ) → Type 0) (begins : List (Option ℕ)) (begin : Option ℕ) (x : Option (List ℕ)) → files (Log begin) ≡ x
      → seen (Log begin) ≡ Some x → ((bytes : List ℕ) → seen (Log begin) ≡ Some (Some bytes) → IsIn begin begins) → ((c : Option (List ℕ)) → x ≡ None → has (Log begin) c → c ≡ None)
      → IsOnItsWay seen has begins begin
  begun_with seen has begins begin None is sees listed lacks = inl (sees, λ c. lacks c refl)
  begun_with seen has begins begin (Some bytes) is sees listed lacks = inr (sees ∙ ap Some (sym is), listed bytes sees)

  pub begun : (seen : FileName → Option (Option (List ℕ))) (has : FileName → Option (List ℕ) → Type 0) (begins : List (Option ℕ)) → Sees seen files → LacksThese has files → Lists Log seen begins
      → (begin : Option ℕ) → IsOnItsWay seen has begins begin
  begun seen has begins sees lacks lists begin = begun_with seen has begins begin (files (Log begin)) refl (sees (Log begin)) (lists begin) (lacks (Log begin))

  -- one of them less
  module _ (seen seen_then : FileName → Option (Option (List ℕ))) (has has_then : FileName → Option (List ℕ) → Type 0) (rest behind : List (Option ℕ)) (begin : Option ℕ) (is_rest : rest ≡ begin ∷ behind)
      (others : KeepsOthers (one (Log begin)) seen seen_then)
      (stays : (n : FileName) → n ≢ Log begin → IsGone seen has n → IsGone seen_then has_then n)
      (gone : (x : Option (List ℕ)) → seen (Log begin) ≡ Some x → IsGone seen_then has_then (Log begin))
      (so_far : (b : Option ℕ) → IsOnItsWay seen has rest b) where
    this_one : IsGone seen_then has_then (Log begin)
    this_one = ⊎_elim (λ was. gone None was.0) (λ waits. gone (files (Log begin)) waits.0) (so_far begin)

    other_log : (b : Option ℕ) → b ≢ begin → Log b ≢ Log begin
    other_log b differs e = let same : b ≡ begin = cc in differs same

    behind_it : (b : Option ℕ) → b ≢ begin → IsIn b rest → IsIn b behind
    behind_it b differs is = ⊎_elim (λ same. absurd (differs same)) (λ later. later) (subst (IsIn b) is_rest is)

    pub one_less : (b : Option ℕ) → IsOnItsWay seen_then has_then behind b
    one_less b =
        ⊎_elim (λ same. inl (subst (λ x. IsGone seen_then has_then (Log x)) (sym same) this_one))
        (λ differs. ⊎_elim (λ was. inl (stays (Log b) (other_log b differs) was))
        (λ waits. inr (others (Log b) (other_log b differs) ∙ waits.0, behind_it b differs waits.1)) (so_far b))
        (same_or_not b begin)

  pub all_gone : (seen : FileName → Option (Option (List ℕ))) (has : FileName → Option (List ℕ) → Type 0) (rest : List (Option ℕ)) → rest ≡ [] → ((b : Option ℕ) → IsOnItsWay seen has rest b)
      → (b : Option ℕ) → IsGone seen has (Log b)
  all_gone seen has rest none all b = ⊎_elim (λ gone. gone) (λ waits. absurd (subst (IsIn b) none waits.1)) (all b)

-- ---- all that is removed

module _ (files : Image) (old logs mark declaration new : FileName → Option (Option (List ℕ))) (has_logs has_mark has_declaration has_new : FileName → Option (List ℕ) → Type 0) (sees : Sees old files)
    (others_logs : KeepsOthers IsLog old logs) (gone_logs : (begin : Option ℕ) → IsGone logs has_logs (Log begin))
    (others_mark : KeepsOthers (one Mark) logs mark) (stays_mark : (n : FileName) → n ≢ Mark → IsGone logs has_logs n → IsGone mark has_mark n)
    (gone_mark : (x : Option (List ℕ)) → logs Mark ≡ Some x → IsGone mark has_mark Mark)
    (others_declaration : KeepsOthers (one Declaration) mark declaration) (stays_declaration : (n : FileName) → n ≢ Declaration → IsGone mark has_mark n → IsGone declaration has_declaration n)
    (gone_declaration : (x : Option (List ℕ)) → mark Declaration ≡ Some x → IsGone declaration has_declaration Declaration)
    (same : (n : FileName) → new n ≡ declaration n) (left : (n : FileName) (c : Option (List ℕ)) → has_new n c → has_declaration n c) where
  settled : (n : FileName) → IsGone declaration has_declaration n → IsGone new has_new n
  settled n gone = (same n ∙ gone.0, λ c there. gone.1 c (left n c there))

  pub cleared_gone : (n : FileName) → IsCleared n → IsGone new has_new n
  cleared_gone (Log begin) is = settled (Log begin) (stays_declaration (Log begin) (λ e. cc) (stays_mark (Log begin) (λ e. cc) (gone_logs begin)))
  cleared_gone Mark is = settled Mark (stays_declaration Mark (λ e. cc) (gone_mark (files Mark) (others_logs Mark (λ e. e) ∙ sees Mark)))
  cleared_gone Declaration is = settled Declaration (gone_declaration (files Declaration) (others_mark Declaration (λ e. cc) ∙ (others_logs Declaration (λ e. e) ∙ sees Declaration)))
  cleared_gone n is = absurd is

  pub cleared_seen : Sees new (cleared_files files)
  cleared_seen (Log begin) = (cleared_gone (Log begin) tt).0
  cleared_seen Mark = (cleared_gone Mark tt).0
  cleared_seen Declaration = (cleared_gone Declaration tt).0
  cleared_seen n = same n ∙ (others_declaration n (λ e. cc) ∙ (others_mark n (λ e. cc) ∙ (others_logs n (λ is. is) ∙ sees n)))

-- ---- the table that is there then

seen_at : {x y : Option (List ℕ)} → Some x ≡ Some y → x ≡ y
seen_at e = cc

module _ (files image : Image) (state text : List ℕ) where
  pub installed_seen : (seen seen_then : FileName → Option (Option (List ℕ))) → Sees seen (put_files (cleared_files files) state) → KeepsOthers (two DeclarationDraft Declaration) seen seen_then
      → seen_then Declaration ≡ Some (Some text) → Sees seen_then image → IsInstalled state text image
  installed_seen seen seen_then sees others declared there = record {
    is_state = seen_at (sym (there State) ∙ (others State (⊎_elim (λ e. cc) (λ e. cc)) ∙ sees State));
    declared = seen_at (sym (there Declaration) ∙ declared);
    no_mark = seen_at (sym (there Mark) ∙ (others Mark (⊎_elim (λ e. cc) (λ e. cc)) ∙ sees Mark));
    no_log = λ begin. seen_at (sym (there (Log begin)) ∙ (others (Log begin) (⊎_elim (λ e. cc) (λ e. cc)) ∙ sees (Log begin)));
  }

  module _ (has_cleared was_put has_put was has : FileName → Option (List ℕ) → Type 0) (put : AreSettled was_put has_put (PutLeft has_cleared state))
      (within : Within was has (DeclaredBound was_put has_put text)) (no_older : (n : FileName) (c : Option (List ℕ)) → was n c → ⊥) (left : IsLeft was has image) where
    -- a name that a declaration does not change
    kept : (n : FileName) → n ≢ DeclarationDraft → n ≢ Declaration → PutLeft has_cleared state n (image n)
    kept n other_draft other =
        ⊎_elim (λ older. absurd (no_older n (image n) older))
        (λ newer. ⊎_elim (⊎_elim (λ older. absurd (put.no_older n (image n) older)) (put.left n (image n)))
        (⊎_elim (λ draft. absurd (other_draft draft)) (λ declared. absurd (other declared.0))) (within.newer n (image n) newer))
        (left n)

    pub installed_left : ((n : FileName) → IsCleared n → (c : Option (List ℕ)) → has_cleared n c → c ≡ None) → ((c : Option (List ℕ)) → has Declaration c → c ≡ Some text) → IsInstalled state text image
    installed_left gone declared = record {
      is_state = kept State (λ e. cc) (λ e. cc);
      declared = ⊎_elim (λ older. absurd (no_older Declaration (image Declaration) older)) (declared (image Declaration)) (left Declaration);
      no_mark = gone Mark tt (image Mark) (kept Mark (λ e. cc) (λ e. cc));
      no_log = λ begin. gone (Log begin) tt (image (Log begin)) (kept (Log begin) (λ e. cc) (λ e. cc));
    }

-- ---- what a start finds

module _ (d : Declared) (t : TableState) (last : Link) (text : List ℕ) (image : Image) (is_table : IsTable d t last) (installed : IsInstalled (state_file d.types last.digest t) text image) where
  abbrev from : Beginning
  from = record { table = t; link = last; state = Some last.number }

  empty : bytes_in (image (Log (Some last.number))) ≡ []
  empty = ap bytes_in (installed.no_log (Some last.number))

  pub finds_installed : Finds d t last image
  finds_installed = record {
    from = from;
    begins = subst (λ (f : Option (List ℕ)). BeginsWith d f from) (sym installed.is_state) (record { file = refl; is_table = is_table; number = refl });
    goes_on = record {
      recovered = recovered_with last (mark_in None) 0 [] [];
      opens = ap (λ (m : Option (List ℕ)). recovered_of last (mark_in m) (bytes_in (image (Log (Some last.number))))) installed.no_mark ∙ ap (recovered_of last (mark_in None)) empty
          ∙ opens_empty (mark_in None) last refl (omega arith);
      is_last = refl;
      leaves = ap (λ (b : List ℕ). replayed t (plain_text last b)) empty;
    };
    is_table = is_table;
    there = λ none. cc;
    beside = λ begin bytes other is. let no : None ≡ Some bytes = sym (installed.no_log begin) ∙ is in cc;
  }
