-- What calls keep of a log that a crash may leave.
use Rattle.std.proofs.Common.{◌≡◌, Bool, ℕ, ◌+◌, ◌-◌, ◌<◌, ◌≤◌, ⊎_elim, List, ◌++◌, length, get_or, take, drop, Option, sym, ap, subst, ◌∙◌, arith, length-append, take-append-drop}
use Rattle.std.specs.Prelude.{map}
use Rattle.std.proofs.lemmas.List.{get_or-append-add, get_or-drop, get_or-take, get_or_append_left, map-append}
use Rattle.checked_log.specs.Chain.{log_text}
use Rattle.checked_log.specs.Line.{Entry, line_text}
use Rattle.checked_log.specs.Mark.{slot_mark}
use Rattle.checked_log.specs.Safe.{IsServed}
use Rattle.checked_log.specs.Whole.{joined}
use Rattle.checked_log.specs.declared.recovery.Link.{Link}
use Rattle.checked_log.proofs.Joined.{joined-append}
use Rattle.checked_disk.specs.Files.{Elapses, Follows, IsAt, IsQuiet, IsThere, Lasts, Left, Shortened, Wrote}
use Rattle.checked_disk.specs.Stands.{Agrees, Begins, RewriteLasts, Stands, WriteLasts, sure_text}
use Rattle.checked_disk.proofs.Moments.{goes_on, lasts_joined, quiet_lasts, started}

-- ---- bytes at places

is_at : (bytes : List ℕ) (p b c : ℕ) → b ≡ c → IsAt bytes p b → IsAt bytes p c
is_at bytes p b c same at = (at.0, at.1 ∙ same)

-- what a write keeps
wrote_begins : (front : List ℕ) (at : ℕ) (bytes : List ℕ) (d c : Left) → Agrees front at bytes → Begins front d.log → Wrote at bytes d c → Begins front c.log
wrote_begins front at bytes d c agrees begins wrote p below =
    let here = begins p below in
    ⊎_elim (λ kept. is_at c.log p (get_or d.log p 0) (get_or front p 0) here.1 kept)
    (λ new.
    let q = new.0 in
    let same : get_or bytes q 0 ≡ get_or front (at + q) 0 = agrees q new.2 (omega (arith, new.1, below)) in
    is_at c.log p (get_or bytes q 0) (get_or front p 0) (same ∙ ap (λ (n : ℕ). get_or front n 0) (sym new.1)) new.3)
    (wrote.places p here.0)

shortened_begins : (front : List ℕ) (count : ℕ) (d c : Left) → length front ≤ count → Begins front d.log → Shortened count d c → Begins front c.log
shortened_begins front count d c few begins cut p below =
    let here = begins p below in
    is_at c.log p (get_or d.log p 0) (get_or front p 0) here.1 (cut.places p (omega (arith, few, below)) here.0)

module _ (base : Link) (es : List Entry) (synced : ℕ) where
  same_marks : (d c : Left) → c.mark ≡ d.mark → Stands base es synced d → Begins (sure_text base es synced) c.log → Stands base es synced c
  same_marks d c same stands front = record {
    front = front;
    first = subst (λ (m : List ℕ). IsServed base (slot_mark (take 512 m)) es synced) (sym same) stands.first;
    second = subst (λ (m : List ℕ). IsServed base (slot_mark (drop 512 m)) es synced) (sym same) stands.second;
  }

  pub wrote_stands : (at : ℕ) (bytes : List ℕ) (d c : Left) → Agrees (sure_text base es synced) at bytes → Stands base es synced d → Wrote at bytes d c → Stands base es synced c
  wrote_stands at bytes d c agrees stands wrote = same_marks d c wrote.mark stands (wrote_begins (sure_text base es synced) at bytes d c agrees stands.front wrote)

  pub shortened_stands : (count : ℕ) (d c : Left) → length (sure_text base es synced) ≤ count → Stands base es synced d → Shortened count d c → Stands base es synced c
  shortened_stands count d c few stands cut = same_marks d c cut.mark stands (shortened_begins (sure_text base es synced) count d c few stands.front cut)

-- ---- calls

module _ {F : Type 0} (may_leave : F → Left → Type 0) (moment : F → ℕ) (left_since : F → ℕ → Left → Type 0) where
  -- one write more
  pub wrote_lasts : (old mid new : F) (at : ℕ) (bytes : List ℕ) (base : Link) (es : List Entry) (synced : ℕ) → Agrees (sure_text base es synced) at bytes
      → Lasts may_leave moment left_since old mid (Stands base es synced) → Follows (Wrote at bytes) (may_leave mid) (may_leave new)
      → Elapses (moment mid) (moment new) (left_since mid) (left_since new) (may_leave new) → Lasts may_leave moment left_since old new (Stands base es synced)
  wrote_lasts old mid new at bytes base es synced agrees so_far follows time =
      goes_on may_leave moment left_since old mid new (Stands base es synced) so_far time
      (λ c left. let from = follows c left in wrote_stands base es synced at bytes from.0 c agrees (so_far.now from.0 from.1) from.2)

  pub cut_lasts : (old mid new : F) (count : ℕ) (base : Link) (es : List Entry) (synced : ℕ) → length (sure_text base es synced) ≤ count
      → Lasts may_leave moment left_since old mid (Stands base es synced) → Follows (Shortened count) (may_leave mid) (may_leave new)
      → Elapses (moment mid) (moment new) (left_since mid) (left_since new) (may_leave new) → Lasts may_leave moment left_since old new (Stands base es synced)
  cut_lasts old mid new count base es synced few so_far follows time =
      goes_on may_leave moment left_since old mid new (Stands base es synced) so_far time
      (λ c left. let from = follows c left in shortened_stands base es synced count from.0 c few (so_far.now from.0 from.1) from.2)

-- what stands behind the first bytes of a write
pub agrees_behind : (front : List ℕ) (at : ℕ) (done rest bytes : List ℕ) → done ++ rest ≡ bytes → Agrees front at bytes → Agrees front (at + length done) rest
agrees_behind front at done rest bytes split agrees q below within =
    let long = ap length split in
    let parts = length-append done rest in
    let there : get_or bytes (length done + q) 0 ≡ get_or rest q 0 = ap (λ (l : List ℕ). get_or l (length done + q) 0) (sym split) ∙ get_or-append-add done rest q 0 in
    let place : at + (length done + q) ≡ at + length done + q = omega arith in
    sym there ∙ agrees (length done + q) (omega arith) (omega arith) ∙ ap (λ (n : ℕ). get_or front n 0) place

module _ {F : Type 0} (may_leave : F → Left → Type 0) (moment : F → ℕ) (left_since : F → ℕ → Left → Type 0) where
  -- a write of the rest
  pub write_joined : (old mid new : F) (at place : ℕ) (done rest bytes : List ℕ) → done ++ rest ≡ bytes → place ≡ at + length done → WriteLasts may_leave moment left_since at bytes old mid
      → WriteLasts may_leave moment left_since place rest mid new → WriteLasts may_leave moment left_since at bytes old new
  write_joined old mid new at place done rest bytes split is first next base es synced agrees here =
      let before = first base es synced agrees here in
      let behind = subst (λ (k : ℕ). Agrees (sure_text base es synced) k rest) (sym is) (agrees_behind (sure_text base es synced) at done rest bytes split agrees) in
      lasts_joined may_leave moment left_since old mid new (Stands base es synced) before (next base es synced behind before.now)

  pub write_begins : (old : F) (at : ℕ) (bytes : List ℕ) → ((c : Left) → left_since old (moment old) c → may_leave old c) → WriteLasts may_leave moment left_since at bytes old old
  write_begins old at bytes only base es synced agrees here = started may_leave moment left_since old (Stands base es synced) only here

  -- bytes that are there are those of the first lines
  there_agrees : (at : ℕ) (front bytes sure : List ℕ) → take (length front) (drop at bytes) ≡ front → Begins sure bytes → Agrees sure at front
  there_agrees at front bytes sure there begins q below within =
      let n = length front in
      sym (ap (λ (l : List ℕ). get_or l q 0) there) ∙ get_or-take n (drop at bytes) q 0 below ∙ get_or-drop at bytes q 0 ∙ (begins (at + q) within).1

  -- a piece more that is written again
  pub rewrite_more : (written : F → ℕ → Bool) (contents : F → Option (List ℕ)) (old mid seen new : F) (at : ℕ) (front : List ℕ) → ((c : Left) → left_since mid (moment mid) c → may_leave mid c)
      → IsThere (contents old) at front → RewriteLasts contents may_leave moment left_since old mid → IsQuiet written may_leave moment left_since mid seen
      → WriteLasts may_leave moment left_since at front seen new → RewriteLasts contents may_leave moment left_since old new
  rewrite_more written contents old mid seen new at front only there first quiet next bytes base es synced known begins here =
      let P = Stands base es synced in
      let before = first bytes base es synced known begins here in
      let read = quiet_lasts may_leave moment left_since written mid seen P only quiet before.now in
      let wrote = next base es synced (there_agrees at front bytes (sure_text base es synced) (there bytes known) begins) read.now in
      lasts_joined may_leave moment left_since old mid new P before (lasts_joined may_leave moment left_since mid seen new P read wrote)

  pub rewrite_read : (written : F → ℕ → Bool) (contents : F → Option (List ℕ)) (old mid seen : F) → ((c : Left) → left_since mid (moment mid) c → may_leave mid c)
      → RewriteLasts contents may_leave moment left_since old mid → IsQuiet written may_leave moment left_since mid seen → RewriteLasts contents may_leave moment left_since old seen
  rewrite_read written contents old mid seen only first quiet bytes base es synced known begins here =
      let P = Stands base es synced in
      let before = first bytes base es synced known begins here in
      lasts_joined may_leave moment left_since old mid seen P before (quiet_lasts may_leave moment left_since written mid seen P only quiet before.now)

  pub rewrite_begins : (contents : F → Option (List ℕ)) (old : F) → ((c : Left) → left_since old (moment old) c → may_leave old c) → RewriteLasts contents may_leave moment left_since old old
  rewrite_begins contents old only bytes base es synced known begins here = started may_leave moment left_since old (Stands base es synced) only here

-- ---- lines

-- the lines up to a number, and those behind it
pub text_parts : (k : ℕ) (es : List Entry) → log_text es ≡ log_text (take k es) ++ log_text (drop k es)
text_parts k es =
    ap log_text (sym (take-append-drop k es)) ∙ ap joined (map-append line_text (take k es) (drop k es)) ∙ joined-append (map line_text (take k es)) (map line_text (drop k es))

pub sure_within : (base : Link) (es : List Entry) (synced : ℕ) → length (sure_text base es synced) ≤ length (log_text es)
sure_within base es synced =
    let k = synced - base.number in
    omega (arith, ap length (text_parts k es), length-append (log_text (take k es)) (log_text (drop k es)))

-- where they are the first bytes, so are the ones up to any number
pub sure_at : (base : Link) (es : List Entry) (synced p : ℕ) → p < length (sure_text base es synced) → get_or (sure_text base es synced) p 0 ≡ get_or (log_text es) p 0
sure_at base es synced p below =
    let k = synced - base.number in
    sym (ap (λ (l : List ℕ). get_or l p 0) (text_parts k es) ∙ get_or_append_left (log_text (take k es)) (log_text (drop k es)) 0 p below)
