-- What a crash leaves of a log whose lines are sure, while it is open and once it is closed.
use Rattle.std.proofs.Common.{◌≡◌, ◌≢◌, ◌⊎◌, inl, inr, ⊎_elim, ℕ, List, Option, Some, None, sym, ap, subst, ◌∙◌, arith}
use Rattle.checked_disk.specs.Files.{Left}
use Rattle.checked_disk.specs.Safe.{IsSafe, entries_of}
use Rattle.checked_disk.specs.Stands.{Stands, StandsFrom}
use Rattle.checked_log.specs.Line.{Entry}
use Rattle.checked_log.specs.Whole.{ended, whole}
use Rattle.checked_log.specs.declared.recovery.Link.{Link}
use Rattle.table_folder.specs.Disk.{Image, IsLeft}
use Rattle.table_folder.specs.Joined.{IsJoined, SeesAround, StandAround}
use Rattle.table_folder.specs.Opened.{IsClosed, bytes_in}
use Rattle.table_folder.specs.Settled.{MayLeave}
use Rattle.table_folder.specs.declared.name.FileName.{FileName}
use Rattle.table_folder.specs.declared.name.FileName.TheVariants.{Log, Mark}

-- what a crash leaves of it has those lines
pub safe_left : (base : Link) (contents : Option (List ℕ)) (next durable sure : ℕ) (may_leave : Left → Type 0) (c : Left) → IsSafe base contents next durable sure may_leave → may_leave c
    → Stands base (entries_of base contents) sure c
safe_left base None next durable sure may_leave c safe left = let none = safe.known in cc
safe_left base (Some bytes) next durable sure may_leave c safe left =
    let same : safe.bytes ≡ bytes = let known = safe.known in cc in
    subst (λ (b : List ℕ). Stands base (whole base (ended b)) sure c) same (safe.sure.each c left)

-- ---- a log that was closed

module _ (base : Link) (es : List Entry) (sure : ℕ) (begin : Option ℕ) (files image : Image) where
  -- the log is one that stands, and so is the mark
  record AreOf : Type 0 where
    log : Left
    log_stands : Stands base es sure log
    log_is : bytes_in (image (Log begin)) ≡ log.log
    there : image (Log begin) ≢ None
    mark : Left
    mark_stands : Stands base es sure mark
    mark_is : bytes_in (image Mark) ≡ mark.mark
    others : (n : FileName) → n ≢ Log begin → n ≢ Mark → image n ≡ files n

  together : AreOf → (c : Left) × IsJoined files begin c image × StandsFrom base es sure c
  together are = (
    record { log = are.log.log; mark = are.mark.mark },
    record { log = are.log_is; mark = are.mark_is; there = λ is. are.there; others = are.others },
    (sure, omega arith, record { front = are.log_stands.front; first = are.mark_stands.first; second = are.mark_stands.second }),
  )

module _ (was has was_then has_then : FileName → Option (List ℕ) → Type 0) (seen_then : FileName → Option (Option (List ℕ))) (contents mark : Option (List ℕ)) (may_leave : Left → Type 0)
    (begin : Option ℕ) (files image : Image) (around : StandAround was has begin files) (closed : IsClosed contents mark may_leave begin seen_then was has was_then has_then)
    (base : Link) (next durable sure : ℕ) (safe : IsSafe base contents next durable sure may_leave) where
  abbrev es : List Entry
  es = entries_of base contents

  has_now : (n : FileName) (c : Option (List ℕ)) → was_then n c ⊎ has_then n c → has_then n c
  has_now n c (inl older) = absurd (around.no_older n c (closed.older n c older))
  has_now n c (inr now) = now

  stands : (x : Left) → may_leave x → Stands base es sure x
  stands x left = safe_left base contents next durable sure may_leave x safe left

  -- what a crash leaves of the log, and of the mark
  the_log : (c : Option (List ℕ)) → was_then (Log begin) c ⊎ has_then (Log begin) c → (x : Left) × Stands base es sure x × (c ≡ Some x.log)
  the_log c left =
      ⊎_elim (λ none. absurd (around.log_there none.1)) (λ some. (some.0, stands some.0 some.1, some.2)) (closed.log_left c (has_now (Log begin) c left))

  the_mark : (c : Option (List ℕ)) → was_then Mark c ⊎ has_then Mark c → (x : Left) × Stands base es sure x × (c ≡ Some x.mark)
  the_mark c left =
      ⊎_elim (λ none. absurd (around.mark_there none.1)) (λ some. (some.0, stands some.0 some.1, some.2)) (closed.mark_left c (has_now Mark c left))

  the_other : (n : FileName) (c : Option (List ℕ)) → n ≢ Log begin → n ≢ Mark → was_then n c ⊎ has_then n c → c ≡ files n
  the_other n c log mark left = around.others n c log mark (closed.others n c log mark (has_now n c left))

  some_there : (c : Option (List ℕ)) (bytes : List ℕ) → c ≡ Some bytes → c ≢ None
  some_there c bytes is none = let no : None ≡ Some bytes = sym none ∙ is in cc

  pub closed_stands : IsLeft was_then has_then image → (c : Left) × IsJoined files begin c image × StandsFrom base es sure c
  closed_stands left =
      let log = the_log (image (Log begin)) (left (Log begin)) in
      let mark = the_mark (image Mark) (left Mark) in
      together base es sure begin files image (record {
        log = log.0;
        log_stands = log.1;
        log_is = ap bytes_in log.2;
        there = some_there (image (Log begin)) log.0.log log.2;
        mark = mark.0;
        mark_stands = mark.1;
        mark_is = ap bytes_in mark.2;
        others = λ n log mark. the_other n (image n) log mark (left n);
      })

  -- ---- and beside what is seen

  module _ (then : Image) (now : Left) (sees : SeesAround seen_then begin files then) (log_known : contents ≡ Some now.log) (mark_known : mark ≡ Some now.mark) (all : Stands base es sure now) where
    seen_bytes : (n : FileName) (bytes : List ℕ) → (x : Option (List ℕ)) × (seen_then n ≡ Some x) × (bytes_in x ≡ bytes) → bytes_in (then n) ≡ bytes
    seen_bytes n bytes some =
        let same : Some (then n) ≡ Some some.0 = sym (sees.sees n) ∙ some.1 in
        let is : then n ≡ some.0 = cc in
        ap bytes_in is ∙ some.2

    log_by : (c : Option (List ℕ)) → (c ≡ then (Log begin)) ⊎ (was_then (Log begin) c ⊎ has_then (Log begin) c) → (x : Left) × Stands base es sure x × (bytes_in c ≡ x.log) × (c ≢ None)
    log_by c (inl same) = (now, all, ap bytes_in same ∙ seen_bytes (Log begin) now.log (closed.log_seen now.log log_known), λ none. sees.log_there (sym same ∙ none))
    log_by c (inr left) = let log = the_log c left in (log.0, log.1, ap bytes_in log.2, some_there c log.0.log log.2)

    mark_by : (c : Option (List ℕ)) → (c ≡ then Mark) ⊎ (was_then Mark c ⊎ has_then Mark c) → (x : Left) × Stands base es sure x × (bytes_in c ≡ x.mark)
    mark_by c (inl same) = (now, all, ap bytes_in same ∙ seen_bytes Mark now.mark (closed.mark_seen now.mark mark_known))
    mark_by c (inr left) = let mark = the_mark c left in (mark.0, mark.1, ap bytes_in mark.2)

    other_by : (n : FileName) (c : Option (List ℕ)) → n ≢ Log begin → n ≢ Mark → (c ≡ then n) ⊎ (was_then n c ⊎ has_then n c) → c ≡ files n
    other_by n c log mark (inl same) = same ∙ sees.others n log mark
    other_by n c log mark (inr left) = the_other n c log mark left

    pub seen_stands : ((n : FileName) → (image n ≡ then n) ⊎ MayLeave was_then has_then n (image n)) → (c : Left) × IsJoined files begin c image × StandsFrom base es sure c
    seen_stands each =
        let log = log_by (image (Log begin)) (each (Log begin)) in
        let mark = mark_by (image Mark) (each Mark) in
        together base es sure begin files image (record {
          log = log.0;
          log_stands = log.1;
          log_is = log.2;
          there = log.3;
          mark = mark.0;
          mark_stands = mark.1;
          mark_is = mark.2;
          others = λ n log mark. other_by n (image n) log mark (each n);
        })
