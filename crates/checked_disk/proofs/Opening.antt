-- What recovery makes of what a crash left.
use Rattle.std.proofs.Common.{◌≡◌, ◌⊎◌, ℕ, zero, suc, ◌+◌, ◌-◌, ◌≤◌, Bool, true, false, cond, inl, inr, ⊎_elim, List, [], ◌∷◌, ◌++◌, length, take, drop, nat_lt, Option, Some, None, Ok, refl, sym, ap, subst, ◌∙◌, arith, length-take, take-take}
use Rattle.std.specs.Prelude.{map, IfSome}
use Rattle.std.specs.Option.{option_map_or}
use Rattle.std.proofs.lemmas.List.{take-append-le}
use Rattle.checked_log.specs.Chain.{Chained, log_text}
use Rattle.checked_log.specs.Line.{Entry, entry_of, line_text}
use Rattle.checked_log.specs.Mark.{later, marks_of, slot_mark}
use Rattle.checked_log.specs.Safe.{HasAnswered, IsServed, Opens}
use Rattle.checked_log.specs.Whole.{ended, link_of, told_durable}
use Rattle.checked_log.specs.declared.mark.Marks.{Marks}
use Rattle.checked_log.specs.declared.recovery.Link.{Link}
use Rattle.checked_log.proofs.Reading.{entry_of-well_formed}
use Rattle.checked_log.proofs.Chains.{whole_front}
use Rattle.checked_log.proofs.Safe.{keeps, opens, served_crash, served_more, served_take, told_whole}
use Rattle.checked_log.specs.Recover.{recovered_of}
use Rattle.checked_log.specs.declared.recovery.Recovered.{Recovered}
use Rattle.checked_disk.specs.Files.{AllLeft, IsSlot, Left}
use Rattle.checked_disk.specs.Safe.{IsSure}
use Rattle.checked_disk.proofs.Sure.{all_none}
use Rattle.checked_disk.specs.Stands.{Begins, HasNoStray, IsAmong, Stands, WasSafe, sure_text}

pub begins_front : (front bytes : List ℕ) → Begins front bytes → bytes ≡ front ++ drop (length front) bytes
begins_front [] bytes begins = refl
begins_front (x ∷ front) [] begins = absurd (omega (arith, (begins zero (omega arith)).0))
begins_front (x ∷ front) (b ∷ bytes) begins =
    let head : b ≡ x = (begins zero (omega arith)).1 in
    let tail : bytes ≡ front ++ drop (length front) bytes =
    begins_front front bytes (λ p below. let at = begins (suc p) (omega arith) in (omega (arith, at.0), at.1)) in
    ap (λ (y : ℕ). y ∷ bytes) head ∙ ap (λ (l : List ℕ). x ∷ l) tail

-- ---- what is told as durable

among_told : (link : Link) (es : List Entry) (e : Entry) (n : ℕ) → Chained link es → told_durable (map line_text es) ≤ n → IsAmong es e → e.durable ≤ n
among_told link [] e n chain told here = absurd here
among_told link (f ∷ es) e n chain told (inl same) =
    let said = entry_of-well_formed (line_text f) f (record { fits = chain.0; is_text = refl }) in
    let one : option_map_or (λ e. e.durable) (entry_of (line_text f)) 0 ≡ f.durable = ap (λ o. option_map_or (λ e. e.durable) o 0) said in
    omega (arith, one, told, ap (λ (x : Entry). x.durable) same)
among_told link (f ∷ es) e n chain told (inr there) = among_told (link_of f) es e n chain.3 (omega (arith, told)) there

said_told : (es : List Entry) (n : ℕ) (o : Option Entry) → ((e : Entry) → IsAmong es e → e.durable ≤ n) → IfSome o (λ e. IsAmong es e ⊎ (e.durable ≤ n)) → option_map_or (λ e. e.durable) o 0 ≤ n
said_told es n None few said = omega arith
said_told es n (Some e) few said = ⊎_elim (few e) (λ le. le) said

lines_told : (es : List Entry) (n : ℕ) (lines : List (List ℕ)) → ((e : Entry) → IsAmong es e → e.durable ≤ n) → HasNoStray es n lines → told_durable lines ≤ n
lines_told es n [] few none = omega arith
lines_told es n (line ∷ lines) few none = omega (arith, said_told es n (entry_of line) few none.0, lines_told es n lines few none.1)

-- ---- the mark

module _ (base : Link) (es : List Entry) (synced : ℕ) where
  greater : (a b : Link) (t : Bool) → IsServed base (Some a) es synced → IsServed base (Some b) es synced
      → let m : Marks = cond t (record { mark = Some b; next = 0 }) (record { mark = Some a; next = 512 }) in IsServed base m.mark es synced × IsSlot m.next
  greater a b true one other = (other, inl refl)
  greater a b false one other = (one, inr refl)

  later_served : (a b : Option Link) → IsServed base a es synced → IsServed base b es synced → IsServed base (later a b).mark es synced × IsSlot (later a b).next
  later_served None b one other = (other, inl refl)
  later_served (Some a) None one other = (one, inr refl)
  later_served (Some a) (Some b) one other = greater a b (nat_lt a.number b.number) one other

  module _ (c : Left) (served : IsServed base None es synced) (stands : Stands base es synced c) (none : HasNoStray es synced (ended c.log)) where
    mark_is : IsServed base (marks_of c.mark).mark es synced × IsSlot (marks_of c.mark).next
    mark_is = later_served (slot_mark (take 512 c.mark)) (slot_mark (drop 512 c.mark)) stands.first stands.second

    pub answered : HasAnswered base (marks_of c.mark).mark (take (synced - base.number) es) c.log
    answered =
        served_crash base (marks_of c.mark).mark es synced c.log mark_is.0
        (record {
          rest = drop (length (sure_text base es synced)) c.log;
          front = begins_front (sure_text base es synced) c.log stands.front;
          told = lines_told es synced (ended c.log) (λ e here. among_told base es e synced served.chain served.told here) none;
        })

    pub opened : Opens base (marks_of c.mark).mark (take (synced - base.number) es) c.log
    opened = opens base (marks_of c.mark).mark (take (synced - base.number) es) c.log answered

    pub safe_start : WasSafe base (marks_of c.mark) (take (synced - base.number) es) (Some c.log) (λ d. d ≡ c)
    safe_start =
        let k = synced - base.number in
        let all : base.number + length (take k es) ≡ synced = omega (arith, length-take k es, served.beyond, served.within) in
        let same : take k (take k es) ≡ take k es = take-take k k es (omega arith) in
        let here : Stands base (take k es) synced c = record {
          front = subst (λ (l : List Entry). Begins (log_text l) c.log) (sym same) stands.front;
          first = served_take base (slot_mark (take 512 c.mark)) es synced stands.first;
          second = served_take base (slot_mark (drop 512 c.mark)) es synced stands.second;
        } in
        record {
          bytes = c.log;
          known = refl;
          slot = mark_is.1;
          answered = answered;
          each = λ d is. subst (λ (x : Left). Stands base (take k es) (base.number + length (take k es)) x) (sym is) (subst (λ (n : ℕ). Stands base (take k es) n c) (sym all) here);
        }

-- ---- a start

module _ (base : Link) (marks : Marks) (es : List Entry) (bytes : List ℕ) (answered : HasAnswered base marks.mark es bytes) where
  -- recovery finds no more durable than is sure
  pub start_durable : (r : Recovered) → recovered_of base marks.mark bytes ≡ Ok r → r.durable ≤ base.number + length es
  start_durable r is = let kept = keeps base marks.mark bytes r is in omega (arith, kept.durable, answered.told, answered.marked)

  pub start_sure : (may_leave : Left → Type 0) → AllLeft may_leave (Stands base es (base.number + length es)) → IsSure base bytes (base.number + length es) may_leave
  start_sure may_leave each =
      let n = base.number + length es in
      let found = opens base marks.mark es bytes answered in
      let chain : Chained base (es ++ found.more) = subst (Chained base) found.whole (whole_front (ended bytes) base).chain in
      let told : told_durable (map line_text (es ++ found.more)) ≤ n =
      omega (arith, subst (λ (l : List Entry). told_durable (map line_text l) ≤ told_durable (ended bytes)) found.whole (told_whole base bytes), answered.told) in
      let count : n - base.number ≡ length es = omega arith in
      let same : sure_text base (es ++ found.more) n ≡ sure_text base es n = ap log_text (take-append-le (n - base.number) es found.more (omega arith)) in
      let fewer : told_durable (map line_text es) ≤ n = omega (arith, told_front es found.more, told) in
      let served : IsServed base None es n = record {
        chain = answered.chain;
        told = fewer;
        beyond = omega arith;
        within = omega arith;
        marked = omega arith;
        agrees = all_none es;
      } in
      record {
        served = subst (λ (l : List Entry). IsServed base None l n) (sym found.whole) (served_more base None es found.more n served chain told);
        each = λ c left.
            let stands = each c left in
            subst (λ (l : List Entry). Stands base l n c) (sym found.whole)
            (record {
              front = subst (λ (l : List ℕ). Begins l c.log) (sym same) stands.front;
              first = served_more base (slot_mark (take 512 c.mark)) es found.more n stands.first chain told;
              second = served_more base (slot_mark (drop 512 c.mark)) es found.more n stands.second chain told;
            });
      }
    where
      told_front : (a b : List Entry) → told_durable (map line_text a) ≤ told_durable (map line_text (a ++ b))
      told_front [] b = omega arith
      told_front (e ∷ a) b = omega (arith, told_front a b)
