-- No line of a log tells of a later write than the last of the entries that its lines are of.
use Rattle.std.proofs.Common.{◌≢◌, ℕ, ◌≤◌, false, inl, inr, List, [], ◌∷◌, Option, Some, None, ap, arith}
use Rattle.std.specs.Prelude.{IfSome}
use Rattle.std.specs.List.{fold}
use Rattle.std.specs.Option.{option_map_or}
use Rattle.checked_disk.specs.Stands.{IsAmong}
use Rattle.checked_log.specs.Chain.{Chained}
use Rattle.checked_log.specs.Line.{Entry, entry_of}
use Rattle.checked_log.specs.Whole.{ended, last_link, link_of}
use Rattle.checked_log.specs.declared.recovery.Link.{Link}
use Rattle.checked_log.proofs.Chains.{last_number}
use Rattle.table_folder.specs.Ended.{before_lines, ended_of, log_judged, with_entry, with_line}
use Rattle.table_folder.specs.Joined.{HasThese}
use Rattle.table_folder.specs.declared.ended.Ended.{Ended}
use Rattle.table_folder.specs.declared.ended.OldLog.TheVariants.{Later}
use Rattle.table_folder.proofs.Judging.{begun_most, ended_most, entry_most, not_later}

-- each of them has a number that is no greater than the last one's
last_most : (link : Link) (es : List Entry) (e : Entry) → Chained link es → IsAmong es e → e.number ≤ (last_link link es).number
last_most link [] e chain here = absurd here
last_most link (f ∷ es) e chain (inl same) = omega (arith, ap (λ (x : Entry). x.number) same, last_number (link_of f) es chain.3)
last_most link (f ∷ es) e chain (inr there) = last_most (link_of f) es e chain.3 there

-- ---- the greatest number

module _ (es : List Entry) (k : ℕ) (few : (e : Entry) → IsAmong es e → e.number ≤ k) where
  said_most : (e : Ended) (o : Option Entry) → IfSome o (IsAmong es) → e.most ≤ k → (option_map_or (with_entry e) o (record e { is_whole = false })).most ≤ k
  said_most e None of most = most
  said_most e (Some x) of most = entry_most e x k most (few x of)

  lines_most : (lines : List (List ℕ)) (e : Ended) → HasThese es lines → e.most ≤ k → (fold with_line e lines).most ≤ k
  lines_most [] e of most = most
  lines_most (line ∷ lines) e of most = lines_most lines (with_line e line) of.1 (said_most e (entry_of line) of.0 most)

-- a start goes on beside the last of them
pub none_later : (declared : ℕ) (begin : Option ℕ) (bytes : List ℕ) (link : Link) (es : List Entry) → Chained link es → HasThese es (ended bytes)
    → log_judged declared begin bytes (last_link link es) ≢ Later
none_later declared begin bytes link es chain of =
    let k = (last_link link es).number in
    let begun = before_lines declared begin in
    let most = lines_most es k (λ e here. last_most link es e chain here) (ended bytes) begun of (begun_most declared begin k) in
    not_later (ended_of begun bytes) (last_link link es) (ended_most begun bytes k most)
