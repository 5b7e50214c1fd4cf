-- How far the lines of a log go.
use Rattle.std.proofs.Common.{◌≡◌, ◌≢◌, ◌⊎◌, inl, inr, ⊎_elim, ℕ, suc, ◌≤◌, ◌&&◌, cond, max, nat_lt, Bool, true, false, List, [], ◌∷◌, ◌++◌, drop, length, Option, Some, None, refl, sym, ap, subst, ◌∙◌, arith}
use Rattle.std.specs.List.{cons_option, fold}
use Rattle.std.specs.Option.{option_map_or}
use Rattle.std.proofs.lemmas.Bool.{le-ltb, ltb-false}
use Rattle.checked_log.specs.Line.{Entry, entry_of, line_digest}
use Rattle.checked_log.specs.Whole.{ended, entries, follows, last_link, link_of, next, whole}
use Rattle.checked_log.specs.declared.recovery.Link.{Link}
use Rattle.checked_log.proofs.Chains.{last_number, whole_front}
use Rattle.checked_log.proofs.Wholes.{whole_more, whole_none}
use Rattle.table_folder.specs.Compacting.{AreSpent, IsJudged, IsSpent}
use Rattle.table_folder.specs.Disk.{IsIn}
use Rattle.table_folder.specs.declared.name.FileName.{FileName}
use Rattle.table_folder.specs.declared.name.FileName.TheVariants.{Log}
use Rattle.table_folder.specs.Ended.{before_lines, ended_of, goes_on, has_rest, judged, log_judged, with_entry, with_line}
use Rattle.table_folder.specs.declared.ended.Ended.{Ended}
use Rattle.table_folder.specs.declared.ended.OldLog.{OldLog}
use Rattle.table_folder.specs.declared.ended.OldLog.TheVariants.{Later, Spent, Left}

-- ---- the greatest number

cond_most : (b : Bool) (one other : Ended) (k : ℕ) → one.most ≤ k → other.most ≤ k → (cond b one other).most ≤ k
cond_most true one other k here there = here
cond_most false one other k here there = there

pub entry_most : (e : Ended) (x : Entry) (k : ℕ) → e.most ≤ k → x.number ≤ k → (with_entry e x).most ≤ k
entry_most e x k most number =
    cond_most (e.is_whole && goes_on e.number e.digest x)
    (record { is_whole = true; number = x.number; digest = Some (line_digest x); most = max e.most x.number })
    (record { is_whole = false; number = e.number; digest = e.digest; most = max e.most x.number }) k (omega arith) (omega arith)

-- a line that is not well formed, or whose number is no greater
line_most : (e : Ended) (line : List ℕ) (o : Option Entry) (k : ℕ) → entry_of line ≡ o → option_map_or (λ x. x.number) o 0 ≤ k → e.most ≤ k → (with_line e line).most ≤ k
line_most e line None k is number most = subst (λ o. (option_map_or (with_entry e) o (record e { is_whole = false })).most ≤ k) (sym is) most
line_most e line (Some x) k is number most = subst (λ o. (option_map_or (with_entry e) o (record e { is_whole = false })).most ≤ k) (sym is) (entry_most e x k most number)

-- no line is well formed
none_by : (line : List ℕ) (lines : List (List ℕ)) (o : Option Entry) → entry_of line ≡ o → length (entries (line ∷ lines)) ≡ 0 → (o ≡ None) × (length (entries lines) ≡ 0)
none_by line lines None is none = (refl, ap (λ o. length (cons_option o (entries lines))) (sym is) ∙ none)
none_by line lines (Some x) is none =
    let more : suc (length (entries lines)) ≡ 0 = ap (λ o. length (cons_option o (entries lines))) (sym is) ∙ none in
    absurd (omega arith)

unsaid_most : (lines : List (List ℕ)) (e : Ended) (k : ℕ) → length (entries lines) ≡ 0 → e.most ≤ k → (fold with_line e lines).most ≤ k
unsaid_most [] e k none most = most
unsaid_most (line ∷ lines) e k none most =
    let parts = none_by line lines (entry_of line) refl none in
    unsaid_most lines (with_line e line) k parts.1 (line_most e line None k parts.0 (omega arith) most)

chosen : (b : Bool) (y x : Entry) → cond b (Some y) None ≡ Some x → Some y ≡ Some x
chosen true y x same = same
chosen false y x same = cc

-- the line is that of the entry that follows
next_by : (link : Link) (line : List ℕ) (x : Entry) (o : Option Entry) → entry_of line ≡ o → option_map_or (λ e. cond (follows link e) (Some e) None) o None ≡ Some x → entry_of line ≡ Some x
next_by link line x None is next = cc
next_by link line x (Some y) is next = is ∙ chosen (follows link y) y x next

-- no well-formed line stands behind the whole ones: then none has a greater number than the last of those
whole_most_by : (link : Link) (line : List ℕ) (lines : List (List ℕ)) (o : Option Entry) → next link line ≡ o
    → ((link : Link) (e : Ended) (k : ℕ) → (last_link link (whole link lines)).number ≤ k → length (entries (drop (length (whole link lines)) lines)) ≡ 0 → e.most ≤ k → (fold with_line e lines).most ≤ k)
    → (e : Ended) (k : ℕ) → (last_link link (whole link (line ∷ lines))).number ≤ k → length (entries (drop (length (whole link (line ∷ lines))) (line ∷ lines))) ≡ 0
    → e.most ≤ k → (fold with_line e (line ∷ lines)).most ≤ k
whole_most_by link line lines None is rest e k last none most =
    let no_whole = whole_none link line lines is in
    unsaid_most (line ∷ lines) e k (subst (λ (es : List Entry). length (entries (drop (length es) (line ∷ lines))) ≡ 0) no_whole none) most
whole_most_by link line lines (Some x) is rest e k last none most =
    let one_more = whole_more link line lines x is in
    let last_here = subst (λ (es : List Entry). (last_link link es).number ≤ k) one_more last in
    let none_here = subst (λ (es : List Entry). length (entries (drop (length es) (line ∷ lines))) ≡ 0) one_more none in
    let chain = (whole_front lines (link_of x)).chain in
    let number : x.number ≤ k = omega (arith, last_number (link_of x) (whole (link_of x) lines) chain, last_here) in
    rest (link_of x) (with_line e line) k last_here none_here (line_most e line (Some x) k (next_by link line x (entry_of line) refl is) number most)

pub whole_most : (lines : List (List ℕ)) (link : Link) (e : Ended) (k : ℕ) → (last_link link (whole link lines)).number ≤ k
    → length (entries (drop (length (whole link lines)) lines)) ≡ 0 → e.most ≤ k → (fold with_line e lines).most ≤ k
whole_most [] link e k last none most = most
whole_most (line ∷ lines) link e k last none most = whole_most_by link line lines (next link line) refl (whole_most lines) e k last none most

-- ---- judging

pub ended_most : (e : Ended) (bytes : List ℕ) (k : ℕ) → (fold with_line e (ended bytes)).most ≤ k → (ended_of e bytes).most ≤ k
ended_most e bytes k most = cond_most (has_rest bytes) (record (fold with_line e (ended bytes)) { is_whole = false }) (fold with_line e (ended bytes)) k most most

not_later_by : (b c : Bool) → b ≡ false → cond b Later (cond c Spent Left) ≢ Later
not_later_by true c is same = cc
not_later_by false true is same = cc
not_later_by false false is same = cc

pub not_later : (e : Ended) (state : Link) → e.most ≤ state.number → judged e state ≢ Later
not_later e state most = not_later_by (nat_lt state.number e.most) _ (le-ltb state.number e.most most)

at_most_by : (a b : ℕ) (t c : Bool) → nat_lt a b ≡ t → cond t Later (cond c Spent Left) ≢ Later → b ≤ a
at_most_by a b true c is other = absurd (other refl)
at_most_by a b false c is other = ltb-false a b is

pub at_most : (e : Ended) (state : Link) → judged e state ≢ Later → e.most ≤ state.number
at_most e state other = at_most_by state.number e.most (nat_lt state.number e.most) _ refl other

pub begun_most : (declared : ℕ) (begin : Option ℕ) (k : ℕ) → (before_lines declared begin).most ≤ k
begun_most declared None k = omega arith
begun_most declared (Some number) k = omega arith

-- a log with no line behind the whole ones, the last of which has this number, has no later writes than a state of that number
pub whole_is_not_later : (declared : ℕ) (begin : Option ℕ) (bytes : List ℕ) (link state : Link) → (last_link link (whole link (ended bytes))).number ≤ state.number
    → length (entries (drop (length (whole link (ended bytes))) (ended bytes))) ≡ 0 → log_judged declared begin bytes state ≢ Later
whole_is_not_later declared begin bytes link state last none =
    let e = before_lines declared begin in
    not_later (ended_of e bytes) state (ended_most e bytes state.number (whole_most (ended bytes) link e state.number last none (begun_most declared begin state.number)))

-- a log that has no later writes than a state has none beside a later state
pub still_not_later : (declared : ℕ) (begin : Option ℕ) (bytes : List ℕ) (state later : Link) → state.number ≤ later.number
    → log_judged declared begin bytes state ≢ Later → log_judged declared begin bytes later ≢ Later
still_not_later declared begin bytes state later less other =
    let e = ended_of (before_lines declared begin) bytes in
    let most = at_most e state other in
    not_later e later (omega (arith, most, less))

-- ---- the file of a log

pub judged_is : (declared : ℕ) (begin : Option ℕ) (last : Link) (x contents : Option (List ℕ)) (e : Ended) (j : OldLog) → x ≡ contents → x ≢ None
    → ((bytes : List ℕ) → contents ≡ Some bytes → e ≡ ended_of (before_lines declared begin) bytes) → j ≡ judged e last → IsJudged declared last begin x (Some j)
judged_is declared begin last None contents e j same there read is = absurd (there refl)
judged_is declared begin last (Some bytes) contents e j same there read is = is ∙ ap (λ e. judged e last) (read bytes (sym same))

pub judged_spent : (declared : ℕ) (begin : Option ℕ) (last : Link) (x : Option (List ℕ)) (j : Option OldLog) → j ≡ Some Spent → IsJudged declared last begin x j → IsSpent declared last begin x
judged_spent declared begin last None j is judged = tt
judged_spent declared begin last (Some bytes) None is judged = absurd judged
judged_spent declared begin last (Some bytes) (Some j) is judged = let same : j ≡ Spent = cc in sym judged ∙ same

in_append : {X : Type 0} (x y : X) (xs : List X) → IsIn x (xs ++ (y ∷ [])) → IsIn x xs ⊎ (x ≡ y)
in_append x y [] (inl same) = inr same
in_append x y [] (inr none) = absurd none
in_append x y (z ∷ xs) (inl same) = inl (inl same)
in_append x y (z ∷ xs) (inr more) = ⊎_elim (λ old. inl (inr old)) inr (in_append x y xs more)

-- one spent log more
pub one_spent : (declared : ℕ) (last : Link) (state : Option ℕ) (seen : FileName → Option (Option (List ℕ))) (spent : List (Option ℕ)) (begin : Option ℕ) → AreSpent declared last state seen spent
    → (begin ≢ state) × ((x : Option (List ℕ)) → seen (Log begin) ≡ Some x → IsSpent declared last begin x) → AreSpent declared last state seen (spent ++ (begin ∷ []))
one_spent declared last state seen spent begin old new b is =
    ⊎_elim (old b) (λ same. subst (λ b. (b ≢ state) × ((x : Option (List ℕ)) → seen (Log b) ≡ Some x → IsSpent declared last b x)) (sym same) new) (in_append b begin spent is)
