-- Where a walk ends once it has taken the lines up to a durable number.
use Rattle.std.proofs.Common.{◌≡◌, ℕ, ◌+◌, ◌-◌, ◌≤◌, ◌==◌, Bool, true, false, cond, suc, List, [], ◌∷◌, ◌++◌, length, take, Option, Some, None, refl, ap, sym, subst, ◌∙◌, arith, length-append}
use Rattle.std.proofs.lemmas.Bool.{and_parts, eqb-true}
use Rattle.checked_log.specs.Chain.{log_text}
use Rattle.checked_log.specs.Line.{Entry, entry_of, line_text}
use Rattle.checked_log.specs.Recover.{whole_entry, with_line, with_whole}
use Rattle.checked_log.specs.Whole.{follows, link_of, next, whole}
use Rattle.checked_log.specs.declared.recovery.Link.{Link}
use Rattle.checked_log.specs.declared.walk.Walk.{Walk}
use Rattle.checked_log.proofs.Reading.{well_formed-entry_of}
use Rattle.checked_log.proofs.Walked.{by_following, line_is, not_whole}
use Rattle.checked_log.proofs.Wholes.{next_is, next_none, whole_more}
use Rattle.checked_disk.specs.Reading.{EndsAt}

-- a line that is whole, and follows
record IsNext (mark : Option Link) (w : Walk) (line : List ℕ) (e : Entry) : Type 0 where
  walk : with_line mark w line ≡ with_whole mark w (length line) e
  is_whole : w.is_whole ≡ true
  said : entry_of line ≡ Some e
  is : follows w.so_far.last e ≡ true

module _ (mark : Option Link) (w : Walk) (line : List ℕ) where
  by_test : (f : Entry) (t : Bool) → w.is_whole ≡ true → entry_of line ≡ Some f → follows w.so_far.last f ≡ t → (next w.so_far.last line ≡ None → (with_line mark w line).is_whole ≡ false)
      × ((e : Entry) → next w.so_far.last line ≡ Some e → IsNext mark w line e)
  by_test f true whole said is =
      let here : next w.so_far.last line ≡ Some f = next_is w.so_far.last line f true said is in (
        λ none. cc (here, none),
        λ e more.
            let same : f ≡ e = cc (here, more) in
            subst (λ (x : Entry). IsNext mark w line x) same
            (record { walk = line_is mark w line (Some f) said ∙ by_following mark w (length line) f true whole is; is_whole = whole; said = said; is = is }),
      )
  by_test f false whole said is =
      let here : next w.so_far.last line ≡ None = next_is w.so_far.last line f false said is in (
        λ none. ap (λ (v : Walk). v.is_whole) (line_is mark w line (Some f) said ∙ by_following mark w (length line) f false whole is),
        λ e more. cc (here, more),
      )

  by_said : (o : Option Entry) (b : Bool) → w.is_whole ≡ b → entry_of line ≡ o → (cond b (next w.so_far.last line) None ≡ None → (with_line mark w line).is_whole ≡ false)
      × ((e : Entry) → cond b (next w.so_far.last line) None ≡ Some e → IsNext mark w line e)
  by_said None true whole said =
      let here : next w.so_far.last line ≡ None = next_none w.so_far.last line said in
      (λ none. ap (λ (v : Walk). v.is_whole) (line_is mark w line None said), λ e more. cc (here, more))
  by_said None false whole said = (λ none. ap (λ (v : Walk). v.is_whole) (line_is mark w line None said), λ e more. cc more)
  by_said (Some f) true whole said = by_test f (follows w.so_far.last f) whole said refl
  by_said (Some f) false whole said =
      (λ none. ap (λ (v : Walk). v.is_whole) (line_is mark w line (Some f) said ∙ not_whole mark w (length line) f whole), λ e more. cc more)

  pub ends_none : whole_entry w line ≡ None → (durable : ℕ) (lines : List (List ℕ)) (end : ℕ) → EndsAt durable (with_line mark w line) lines end
  ends_none none durable lines end all few =
      let not : (with_line mark w line).is_whole ≡ false = (by_said (entry_of line) w.is_whole refl refl).0 none in cc (not, all)

  module _ (e : Entry) (some : whole_entry w line ≡ Some e) where
    is_next : IsNext mark w line e
    is_next = (by_said (entry_of line) w.is_whole refl refl).1 e some

    whole_ends : (durable : ℕ) (lines : List (List ℕ)) (end : ℕ) → EndsAt durable w (line ∷ lines) end → EndsAt durable (with_whole mark w (length line) e) lines end
    whole_ends durable lines end at all few =
        let n = is_next in
        let last = w.so_far.last in
        let number : e.number ≡ last.number + 1 = eqb-true e.number (last.number + 1) (and_parts (e.number == last.number + 1) (e.before == last.digest) n.is).0 in
        let rest = take (durable - e.number) (whole (link_of e) lines) in
        let more : whole last (line ∷ lines) ≡ e ∷ whole (link_of e) lines = whole_more last line lines e (next_is last line e true n.said n.is) in
        let count : durable - last.number ≡ suc (durable - e.number) = omega arith in
        let texts : take (durable - last.number) (whole last (line ∷ lines)) ≡ e ∷ rest =
        ap (λ (k : ℕ). take k (whole last (line ∷ lines))) count ∙ ap (take (suc (durable - e.number))) more in
        let long : length line ≡ length (line_text e) = ap length (well_formed-entry_of line e n.said).is_text in
        let parts = length-append (line_text e ++ (10 ∷ [])) (log_text rest) in
        let one = length-append (line_text e) (10 ∷ []) in
        let here = at n.is_whole (omega arith) in
        let same = ap (λ (es : List Entry). length (log_text es)) texts in
        omega (arith, here, same, parts, one, long)

    pub ends_some : (durable : ℕ) (lines : List (List ℕ)) (end : ℕ) → EndsAt durable w (line ∷ lines) end → EndsAt durable (with_line mark w line) lines end
    ends_some durable lines end at = subst (λ (v : Walk). EndsAt durable v lines end) (sym is_next.walk) (whole_ends durable lines end at)

    pub ends_within : (durable : ℕ) (lines : List (List ℕ)) (end : ℕ) → EndsAt durable w (line ∷ lines) end → e.number ≤ durable → (with_line mark w line).so_far.end ≤ end
    ends_within durable lines end at few =
        let all = whole_ends durable lines end at refl few in
        let here : (with_line mark w line).so_far.end ≡ w.so_far.end + (length line + 1) = ap (λ (v : Walk). v.so_far.end) is_next.walk in
        omega (arith, all, here)
