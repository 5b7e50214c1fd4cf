-- What is known of a log that is made ready, from what was known before.
use Rattle.std.proofs.Common.{inl, inr, ⊎_elim, ◌≡◌, ℕ, ◌+◌, ◌≤◌, List, length, Option, None, Some, Result, Ok, Err, ap, subst, sym, ◌∙◌, arith}
use Rattle.std.specs.Prelude.{IfOk, OnErr, OnOk}
use Rattle.checked_disk.specs.Files.{Left}
use Rattle.checked_disk.specs.Safe.{entries_of}
use Rattle.checked_disk.specs.Stands.{Stands, StandsFrom, WasSafe}
use Rattle.checked_disk.proofs.Opening.{start_durable, start_sure}
use Rattle.checked_log.specs.Line.{Entry}
use Rattle.checked_log.specs.Recover.{recovered_of}
use Rattle.checked_log.specs.Whole.{ended, whole}
use Rattle.checked_log.specs.declared.mark.Marks.{Marks}
use Rattle.checked_log.specs.declared.recovery.Link.{Link}
use Rattle.table_folder.specs.Base.{state_in}
use Rattle.table_folder.specs.Disk.{Image}
use Rattle.table_folder.specs.Opened.{IsOpened, MayLeaveAt, bytes_in}
use Rattle.table_folder.specs.Settled.{Runs, Within}
use Rattle.table_folder.specs.Settling.{AsBefore, ClosedBound, LeavesLines, MadeBound, MayBeLeft, MayOpen, MayStand, SeesSame, WasReady}
use Rattle.table_folder.specs.declared.about.About.{About}
use Rattle.table_folder.specs.declared.name.FileName.{FileName}
use Rattle.table_folder.specs.declared.name.FileName.TheVariants.{Log, Mark}
use Rattle.table_folder.proofs.Making.{runs_joined, runs_wider, within_before}

-- ---- results

pub err_so : {T E : Type 0} (r : Result T E) (Q : Type 0) → Q → OnErr r Q
err_so (Ok x) Q is = tt
err_so (Err e) Q is = is

pub ok_so : {T E : Type 0} (r : Result T E) (Q : Type 0) → Q → OnOk r Q
ok_so (Ok x) Q is = is
ok_so (Err e) Q is = tt

pub ok_more : {T E : Type 0} (r : Result T E) (P Q : T → Type 0) (S : Type 0) → IfOk r P → OnOk r S → ((x : T) → P x → S → Q x) → IfOk r Q
ok_more (Ok x) P Q S is so go = go x is so
ok_more (Err e) P Q S is so go = is

-- ---- what a crash leaves once a log is closed behind files that were made

module _ {D : Type 0} (was has : D → FileName → Option (List ℕ) → Type 0) (moment : D → ℕ) (left_since : D → ℕ → Image → Type 0) (seen : FileName → Option (Option (List ℕ))) (b begin : Option ℕ)
    (is : b ≡ begin) (old : D) where
  -- nothing was opened
  pub made_only : (new : D) (Q : Left → Type 0) → Runs was has moment left_since old new (MadeBound seen b (AsBefore (was old) (has old)))
      → Runs was has moment left_since old new (ClosedBound Q begin (MadeBound seen begin (AsBefore (was old) (has old))))
  made_only new Q run =
      let before : FileName → Option (List ℕ) → Type 0 = AsBefore (was old) (has old) in
      runs_wider was has moment left_since old new (MadeBound seen begin before) (ClosedBound Q begin (MadeBound seen begin before))
      (subst (λ (x : Option ℕ). Runs was has moment left_since old new (MadeBound seen x before)) is run) (λ n c within. inl within)

  -- the log was opened, and closed again
  pub made_and_closed : (named mid new : D) (P Q : Left → Type 0) → mid ≡ named → Runs was has moment left_since old named (MadeBound seen b (AsBefore (was old) (has old)))
      → Runs was has moment left_since mid new (ClosedBound P b (AsBefore (was mid) (has mid))) → ((c : Left) → P c → Q c)
      → Runs was has moment left_since old new (ClosedBound Q begin (MadeBound seen begin (AsBefore (was old) (has old))))
  made_and_closed named mid new P Q same run closed go =
      let made : FileName → Option (List ℕ) → Type 0 = MadeBound seen begin (AsBefore (was old) (has old)) in
      let all : FileName → Option (List ℕ) → Type 0 = ClosedBound Q begin made in
      let first : Runs was has moment left_since old mid all = subst (λ (d : D). Runs was has moment left_since old d all) (sym same) (made_only named Q run) in
      let within : Within (was mid) (has mid) made =
      subst (λ (d : D). Within (was d) (has d) made) (sym same) (subst (λ (x : Option ℕ). Within (was named) (has named) (MadeBound seen x (AsBefore (was old) (has old)))) is run.within) in
      let second : Runs was has moment left_since mid new (ClosedBound P begin (AsBefore (was mid) (has mid))) =
      subst (λ (x : Option ℕ). Runs was has moment left_since mid new (ClosedBound P x (AsBefore (was mid) (has mid)))) is closed in
      runs_joined was has moment left_since old mid new all (ClosedBound P begin (AsBefore (was mid) (has mid))) first second
      (λ n c. ⊎_elim (λ before. inl (within_before (was mid) (has mid) made within n c before))
      (⊎_elim (λ log. inr (inl (log.0, (log.1.0, go log.1.0 log.1.1, log.1.2)))) (λ mark. inr (inr (mark.0, (mark.1.0, go mark.1.0 mark.1.1, mark.1.2))))))

-- ---- the log

-- what may stand behind files that were made might have stood before
may_stand : (seen : FileName → Option (Option (List ℕ))) (begin : Option ℕ) (was has was_then has_then : FileName → Option (List ℕ) → Type 0) (n : FileName) (x : Option (List ℕ)) → seen n ≡ Some x
    → Within was_then has_then (MadeBound seen begin (AsBefore was has)) → (bytes : List ℕ) → MayLeaveAt was_then has_then n bytes → MayStand seen was has n bytes
may_stand seen begin was has was_then has_then n x there within bytes left =
    ⊎_elim (λ before. inl (left.0, before, left.2))
    (λ made. let none : x ≡ None = made.1 x there in inr (x, there, ap bytes_in none ∙ sym (ap bytes_in made.2) ∙ left.2))
    (within_before was_then has_then (MadeBound seen begin (AsBefore was has)) within n left.0 left.1)

-- what stands of the lines that a start may rely on
was_lines : (base : Link) (marks : Marks) (es : List Entry) (bytes : List ℕ) (may_leave : Left → Type 0) → WasSafe base marks es (Some bytes) may_leave → (c : Left) → may_leave c
    → StandsFrom base (whole base (ended bytes)) (base.number + length es) c
was_lines base marks es bytes may_leave was c left =
    let same : was.bytes ≡ bytes = let e : Some bytes ≡ Some was.bytes = was.known in cc in
    let sure = start_sure base marks es was.bytes was.answered may_leave was.each in
    (base.number + length es, omega arith, subst (λ (b : List ℕ). Stands base (whole base (ended b)) (base.number + length es) c) same (sure.each c left))

-- the same lines, said of other bytes that are equal
lines_are : (b base : Link) (contents : Option (List ℕ)) (bytes : List ℕ) (k : ℕ) (c : Left) → b ≡ base → contents ≡ Some bytes → StandsFrom b (entries_of b contents) (b.number + k) c
    → StandsFrom base (whole base (ended bytes)) (base.number + k) c
lines_are b base contents bytes k c same is stands =
    subst (λ (x : Link). StandsFrom x (whole x (ended bytes)) (x.number + k) c) same (subst (λ (o : Option (List ℕ)). StandsFrom b (entries_of b o) (b.number + k) c) is stands)

module _ (about : About) (es : List Entry) (seen : FileName → Option (Option (List ℕ))) (was has : FileName → Option (List ℕ) → Type 0) (ready : WasReady about es seen was has) where
  -- no more is known to be durable than a start may rely on
  pub ready_few : about.kept.log.durable ≤ about.kept.base.number + length es
  ready_few =
      let safe = ready.safe in
      let same : safe.bytes ≡ bytes_in ready.log = let e : Some (bytes_in ready.log) ≡ Some safe.bytes = safe.known in cc in
      let few = start_durable about.base.link about.marks es safe.bytes safe.answered about.recovered
      (subst (λ (b : List ℕ). recovered_of about.base.link about.marks.mark b ≡ Ok about.recovered) (sym same) ready.known.opens) in
      omega (arith, few, ready.known.durable, ap (λ (l : Link). l.number) ready.known.base)

  -- what may be left has the lines
  pub ready_lines : (c : Left) → MayBeLeft seen was has (state_in about.base) c → LeavesLines about es ready.log c
  ready_lines = was_lines about.base.link about.marks es (bytes_in ready.log) (MayBeLeft seen was has (state_in about.base)) ready.safe

  -- the same, said of a log that was opened
  pub lines_left : (b : Link) (contents : Option (List ℕ)) → b ≡ about.kept.base → contents ≡ Some (bytes_in ready.log) → (c : Left)
      → StandsFrom b (entries_of b contents) (about.kept.base.number + length es) c → LeavesLines about es ready.log c
  lines_left b contents same is c stands =
      lines_are b about.base.link contents (bytes_in ready.log) (length es) c (same ∙ ready.known.base) is
      (subst (λ (x : Link). StandsFrom b (entries_of b contents) (x.number + length es) c) (sym same) stands)

  -- so has a log that is opened
  pub ready_safe : (contents : Option (List ℕ)) (may_leave : Left → Type 0) → contents ≡ Some (bytes_in ready.log) → ((c : Left) → may_leave c → MayBeLeft seen was has (state_in about.base) c)
      → WasSafe about.kept.base about.marks es contents may_leave
  ready_safe contents may_leave is leaves =
      let safe = ready.safe in
      subst (λ (b : Link). WasSafe b about.marks es contents may_leave) (sym ready.known.base)
      (record { bytes = safe.bytes; known = is ∙ safe.known; slot = safe.slot; answered = safe.answered; each = λ c left. safe.each c (leaves c left) })

  module _ (was_then has_then : FileName → Option (List ℕ) → Type 0) where
    open_begun : Within was_then has_then (MadeBound seen (state_in about.base) (AsBefore was has)) → (c : Left) → MayOpen was_then has_then (state_in about.base) c
        → MayBeLeft seen was has (state_in about.base) c
    open_begun within c left = (
      may_stand seen (state_in about.base) was has was_then has_then (Log (state_in about.base)) ready.log ready.log_seen within c.log left.0,
      may_stand seen (state_in about.base) was has was_then has_then Mark ready.mark ready.mark_seen within c.mark left.1,
    )

    module _ (b : Option ℕ) (is : b ≡ state_in about.base) (within : Within was_then has_then (MadeBound seen b (AsBefore was has))) where
      -- what may be left of the log where it is opened
      pub may_open : (c : Left) → MayOpen was_then has_then b c → MayBeLeft seen was has (state_in about.base) c
      may_open =
          subst (λ (x : Option ℕ). Within was_then has_then (MadeBound seen x (AsBefore was has)) → (c : Left) → MayOpen was_then has_then x c → MayBeLeft seen was has (state_in about.base) c)
          (sym is) open_begun within

      module _ {L : Type 0} (contents mark : L → Option (List ℕ)) (may_leave : L → Left → Type 0) (seen_then : FileName → Option (Option (List ℕ))) (found : L × ℕ)
          (opened : IsOpened contents mark may_leave seen_then was_then has_then b found) (same : SeesSame (seen (Log b)) (seen_then (Log b))) where
        pub opened_bytes : contents found.0 ≡ Some (bytes_in ready.log)
        opened_bytes =
            let there = same.on ready.log (ap (λ (x : Option ℕ). seen (Log x)) is ∙ ready.log_seen) in
            opened.log_bytes there.0 there.1 ∙ ap Some there.2

        pub opened_safe : WasSafe about.kept.base about.marks es (contents found.0) (may_leave found.0)
        opened_safe = ready_safe (contents found.0) (may_leave found.0) opened_bytes (λ c left. may_open c (opened.left c left))
