-- What a walk finds in a line more.
use Rattle.std.proofs.Common.{◌≡◌, ℕ, Bool, true, false, cond, List, [], ◌∷◌, ◌++◌, length, Option, Some, None, refl, ap, sym, ◌∙◌}
use Rattle.checked_log.specs.Line.{Entry, entry_of}
use Rattle.checked_log.specs.Recover.{whole_entry, with_line, with_whole}
use Rattle.checked_log.specs.Whole.{follows, next, whole}
use Rattle.checked_log.specs.declared.recovery.Link.{Link}
use Rattle.checked_log.specs.declared.walk.Walk.{Walk}
use Rattle.checked_log.proofs.Walked.{by_following, line_is, not_whole}
use Rattle.checked_log.proofs.Wholes.{next_is, next_none, whole_more, whole_none}
use Rattle.checked_disk.specs.Plain.{found_from, plain_lines}

-- behind the whole lines nothing is found
none_found : (w : Walk) (lines : List (List ℕ)) → w.is_whole ≡ false → found_from w lines ≡ []
none_found w lines not = ap (λ (b : Bool). cond b (plain_lines (whole w.so_far.last lines)) []) not

all_found : (w : Walk) (lines : List (List ℕ)) → w.is_whole ≡ true → found_from w lines ≡ plain_lines (whole w.so_far.last lines)
all_found w lines is = ap (λ (b : Bool). cond b (plain_lines (whole w.so_far.last lines)) []) is

module _ (mark : Option Link) (w : Walk) (line : List ℕ) (lines : List (List ℕ)) where
  found_whole : (e : Entry) → w.is_whole ≡ true → entry_of line ≡ Some e → follows w.so_far.last e ≡ true
      → found_from w (line ∷ lines) ≡ (e.write ++ (10 ∷ [])) ++ found_from (with_line mark w line) lines
  found_whole e is_whole said is =
      let here : with_line mark w line ≡ with_whole mark w (length line) e = line_is mark w line (Some e) said ∙ by_following mark w (length line) e true is_whole is in
      all_found w (line ∷ lines) is_whole ∙ ap plain_lines (whole_more w.so_far.last line lines e (next_is w.so_far.last line e true said is))
      ∙ ap (λ (v : Walk). (e.write ++ (10 ∷ [])) ++ found_from v lines) (sym here)

  stops : (v : Walk) → with_line mark w line ≡ v → v.is_whole ≡ false → found_from w (line ∷ lines) ≡ [] → found_from w (line ∷ lines) ≡ found_from (with_line mark w line) lines
  stops v is not none = none ∙ sym (ap (λ (v : Walk). found_from v lines) is ∙ none_found v lines not)

  some_by : (e f : Entry) (t : Bool) → w.is_whole ≡ true → entry_of line ≡ Some f → follows w.so_far.last f ≡ t → next w.so_far.last line ≡ Some e
      → found_from w (line ∷ lines) ≡ (e.write ++ (10 ∷ [])) ++ found_from (with_line mark w line) lines
  some_by e f true is_whole said is more =
      let here : next w.so_far.last line ≡ Some f = next_is w.so_far.last line f true said is in
      let same : f ≡ e = cc in
      found_whole f is_whole said is ∙ ap (λ (d : Entry). (d.write ++ (10 ∷ [])) ++ found_from (with_line mark w line) lines) same
  some_by e f false is_whole said is more =
      let here : next w.so_far.last line ≡ None = next_is w.so_far.last line f false said is in cc

  some_said : (e : Entry) (o : Option Entry) → w.is_whole ≡ true → entry_of line ≡ o → next w.so_far.last line ≡ Some e
      → found_from w (line ∷ lines) ≡ (e.write ++ (10 ∷ [])) ++ found_from (with_line mark w line) lines
  some_said e None is_whole said more = let here : next w.so_far.last line ≡ None = next_none w.so_far.last line said in cc
  some_said e (Some f) is_whole said more = some_by e f (follows w.so_far.last f) is_whole said refl more

  some_whole : (e : Entry) (b : Bool) → w.is_whole ≡ b → cond b (next w.so_far.last line) None ≡ Some e
      → found_from w (line ∷ lines) ≡ (e.write ++ (10 ∷ [])) ++ found_from (with_line mark w line) lines
  some_whole e true is more = some_said e (entry_of line) is refl more
  some_whole e false is more = cc

  -- a whole line
  pub found_some : (e : Entry) → whole_entry w line ≡ Some e → found_from w (line ∷ lines) ≡ (e.write ++ (10 ∷ [])) ++ found_from (with_line mark w line) lines
  found_some e more = some_whole e w.is_whole refl more

  none_by : (f : Entry) (t : Bool) → w.is_whole ≡ true → entry_of line ≡ Some f → follows w.so_far.last f ≡ t → next w.so_far.last line ≡ None
      → found_from w (line ∷ lines) ≡ found_from (with_line mark w line) lines
  none_by f true is_whole said is none = let here : next w.so_far.last line ≡ Some f = next_is w.so_far.last line f true said is in cc
  none_by f false is_whole said is none =
      stops _ (line_is mark w line (Some f) said ∙ by_following mark w (length line) f false is_whole is) refl
      (all_found w (line ∷ lines) is_whole ∙ ap plain_lines (whole_none w.so_far.last line lines none))

  none_said : (o : Option Entry) → w.is_whole ≡ true → entry_of line ≡ o → next w.so_far.last line ≡ None → found_from w (line ∷ lines) ≡ found_from (with_line mark w line) lines
  none_said None is_whole said none =
      stops _ (line_is mark w line None said) refl (all_found w (line ∷ lines) is_whole ∙ ap plain_lines (whole_none w.so_far.last line lines none))
  none_said (Some f) is_whole said none = none_by f (follows w.so_far.last f) is_whole said refl none

  none_behind : (o : Option Entry) → w.is_whole ≡ false → entry_of line ≡ o → found_from w (line ∷ lines) ≡ found_from (with_line mark w line) lines
  none_behind None not said = stops _ (line_is mark w line None said) refl (none_found w (line ∷ lines) not)
  none_behind (Some f) not said = stops _ (line_is mark w line (Some f) said ∙ not_whole mark w (length line) f not) refl (none_found w (line ∷ lines) not)

  none_whole : (b : Bool) → w.is_whole ≡ b → cond b (next w.so_far.last line) None ≡ None → found_from w (line ∷ lines) ≡ found_from (with_line mark w line) lines
  none_whole true is none = none_said (entry_of line) is refl none
  none_whole false is none = none_behind (entry_of line) is refl

  -- any other line
  pub found_none : whole_entry w line ≡ None → found_from w (line ∷ lines) ≡ found_from (with_line mark w line) lines
  found_none none = none_whole w.is_whole refl none

-- no line, nothing found
pub found_end : (w : Walk) → found_from w [] ≡ []
found_end w = elim w.is_whole as (λ b. cond b (plain_lines (whole w.so_far.last [])) [] ≡ []) [ true ↦ refl | false ↦ refl ]
