-- What is found line by line is what the definitions say of all lines.
use Rattle.std.proofs.Common.{◌≡◌, ℕ, ◌+◌, ◌-◌, ◌&&◌, cond, max, Bool, true, false, List, [], ◌∷◌, ◌++◌, ◌≤◌, drop, length, take, Option, Some, None, refl, sym, ap, subst, ◌∙◌, arith, length-append, zero-add}
use Rattle.std.specs.List.{cons_option, list_all}
use Rattle.std.specs.Option.{option_map_or, option_or}
use Rattle.checked_log.specs.Line.{Entry, entry_of}
use Rattle.checked_log.specs.Recover.{end_of, first_number, is_marked, judged, recovered_of, recovered_with, walk_from, walked, whole_entry, with_behind, with_count, with_entry, with_line, with_whole}
use Rattle.checked_log.specs.Whole.{agrees, ended, entries, follows, joined, last_link, link_of, next, told_durable, whole}
use Rattle.checked_log.specs.declared.recovery.Link.{Link}
use Rattle.checked_log.specs.declared.recovery.Recovered.{Recovered}
use Rattle.checked_log.specs.declared.walk.Walk.{Walk}
use Rattle.checked_log.proofs.Wholes.{next_is, next_none, whole_more, whole_none}

-- from one walk, over these lines of which these entries are whole, to another
record Walks (mark : Option Link) (w : Walk) (lines : List (List ℕ)) (es : List Entry) (r : Walk) : Type 0 where
  last : r.so_far.last ≡ last_link w.so_far.last es
  end : r.so_far.end ≡ w.so_far.end + length (joined (take (length es) lines))
  durable : r.so_far.durable ≡ max w.so_far.durable (told_durable lines)
  marked : r.is_marked ≡ (w.is_marked && list_all (λ e. agrees mark (link_of e)) es)
  count : r.so_far.behind.lines ≡ w.so_far.behind.lines + length (entries (drop (length es) lines))
  first : r.so_far.behind.first ≡ option_or w.so_far.behind.first (first_number (entries (drop (length es) lines)))

-- ---- one line

pub line_is : (mark : Option Link) (w : Walk) (line : List ℕ) (o : Option Entry) → entry_of line ≡ o → with_line mark w line ≡ with_entry mark w (length line) o
unfolding with_line
line_is mark w line o is = ap (with_entry mark w (length line)) is

pub not_whole : (mark : Option Link) (w : Walk) (count : ℕ) (e : Entry) → w.is_whole ≡ false → with_entry mark w count (Some e) ≡ with_behind w e
not_whole mark w count e is = ap (λ (b : Bool). cond (b && follows w.so_far.last e) (with_whole mark w count e) (with_behind w e)) is

pub by_following : (mark : Option Link) (w : Walk) (count : ℕ) (e : Entry) (b : Bool) → w.is_whole ≡ true → follows w.so_far.last e ≡ b
    → with_entry mark w count (Some e) ≡ cond b (with_whole mark w count e) (with_behind w e)
by_following mark w count e b whole is =
    ap (λ (t : Bool). cond (t && follows w.so_far.last e) (with_whole mark w count e) (with_behind w e)) whole
    ∙ ap (λ (t : Bool). cond t (with_whole mark w count e) (with_behind w e)) is

-- ---- what a line says, if it is whole

pub unwhole_entry : (w : Walk) (line : List ℕ) → w.is_whole ≡ false → whole_entry w line ≡ None
unwhole_entry w line is = ap (λ (b : Bool). cond b (next w.so_far.last line) None) is

none_entry : (w : Walk) (line : List ℕ) (b : Bool) → next w.so_far.last line ≡ None → cond b (next w.so_far.last line) None ≡ None
none_entry w line true is = is
none_entry w line false is = refl

pub unsaid_entry : (w : Walk) (line : List ℕ) → entry_of line ≡ None → whole_entry w line ≡ None
unsaid_entry w line said = none_entry w line w.is_whole (next_none w.so_far.last line said)

pub behind_entry : (w : Walk) (line : List ℕ) (e : Entry) → entry_of line ≡ Some e → follows w.so_far.last e ≡ false → whole_entry w line ≡ None
behind_entry w line e said is = none_entry w line w.is_whole (next_is w.so_far.last line e false said is)

pub whole_entry_is : (w : Walk) (line : List ℕ) (e : Entry) → w.is_whole ≡ true → entry_of line ≡ Some e → follows w.so_far.last e ≡ true → whole_entry w line ≡ Some e
whole_entry_is w line e whole said is = ap (λ (b : Bool). cond b (next w.so_far.last line) None) whole ∙ next_is w.so_far.last line e true said is

-- ---- lines behind the whole ones

or_none : (o : Option ℕ) → option_or o None ≡ o
or_none None = refl
or_none (Some n) = refl

or_assoc : (o : Option ℕ) (n : ℕ) (p : Option ℕ) → option_or (option_or o (Some n)) p ≡ option_or o (Some n)
or_assoc None n p = refl
or_assoc (Some m) n p = refl

and_true : (b : Bool) → b ≡ (b && true)
and_true true = refl
and_true false = refl

and_assoc : (a b c : Bool) → ((a && b) && c) ≡ (a && (b && c))
and_assoc true b c = refl
and_assoc false b c = refl

none_walk : (mark : Option Link) (w : Walk) → Walks mark w [] [] w
none_walk mark w = record {
  last = refl;
  end = omega arith;
  durable = omega arith;
  marked = and_true w.is_marked;
  count = omega arith;
  first = sym (or_none w.so_far.behind.first);
}

-- no entry more
skipped : (mark : Option Link) (w : Walk) (line : List ℕ) (lines : List (List ℕ)) (r : Walk) → entry_of line ≡ None
    → Walks mark (record w { is_whole = false }) lines [] r → Walks mark w (line ∷ lines) [] r
skipped mark w line lines r said walks = record {
  last = walks.last;
  end = walks.end;
  durable =
      let none : max w.so_far.durable (told_durable lines) ≡ max w.so_far.durable (max 0 (told_durable lines)) = omega arith in
      walks.durable ∙ none ∙ ap (λ o. max w.so_far.durable (max (option_map_or (λ e. e.durable) o 0) (told_durable lines))) (sym said);
  marked = walks.marked;
  count = walks.count ∙ ap (λ o. w.so_far.behind.lines + length (cons_option o (entries lines))) (sym said);
  first = walks.first ∙ ap (λ o. option_or w.so_far.behind.first (first_number (cons_option o (entries lines)))) (sym said);
}

-- an entry more, behind the whole ones
put_behind : (mark : Option Link) (w : Walk) (line : List ℕ) (lines : List (List ℕ)) (e : Entry) (r : Walk) → entry_of line ≡ Some e
    → Walks mark (with_behind w e) lines [] r → Walks mark w (line ∷ lines) [] r
put_behind mark w line lines e r said walks = record {
  last = walks.last;
  end = walks.end;
  durable =
      let more : max (max w.so_far.durable e.durable) (told_durable lines) ≡ max w.so_far.durable (max e.durable (told_durable lines)) = omega arith in
      walks.durable ∙ more ∙ ap (λ o. max w.so_far.durable (max (option_map_or (λ e. e.durable) o 0) (told_durable lines))) (sym said);
  marked = walks.marked;
  count =
      let more : w.so_far.behind.lines + 1 + length (entries lines) ≡ w.so_far.behind.lines + length (e ∷ entries lines) = omega arith in
      walks.count ∙ more ∙ ap (λ o. w.so_far.behind.lines + length (cons_option o (entries lines))) (sym said);
  first =
      walks.first ∙ or_assoc w.so_far.behind.first e.number (first_number (entries lines))
      ∙ ap (λ o. option_or w.so_far.behind.first (first_number (cons_option o (entries lines)))) (sym said);
}

behind_step : (mark : Option Link) (w : Walk) (line : List ℕ) (lines : List (List ℕ)) (o : Option Entry) (r : Walk) → w.is_whole ≡ false → entry_of line ≡ o
    → Walks mark (with_entry mark w (length line) o) lines [] r → Walks mark w (line ∷ lines) [] r
behind_step mark w line lines None r not said walks = skipped mark w line lines r said walks
behind_step mark w line lines (Some e) r not said walks =
    put_behind mark w line lines e r said
    (subst (λ (v : Walk). Walks mark v lines [] r) (not_whole mark w (length line) e not) walks)

stays_behind : (mark : Option Link) (w : Walk) (count : ℕ) (o : Option Entry) → w.is_whole ≡ false → (with_entry mark w count o).is_whole ≡ false
stays_behind mark w count None not = refl
stays_behind mark w count (Some e) not = ap (λ (v : Walk). v.is_whole) (not_whole mark w count e not)

walks_behind : (mark : Option Link) (lines : List (List ℕ)) (w : Walk) → w.is_whole ≡ false → Walks mark w lines [] (walked mark w lines)
walks_behind mark [] w not = none_walk mark w
walks_behind mark (line ∷ lines) w not =
    let is : with_line mark w line ≡ with_entry mark w (length line) (entry_of line) = line_is mark w line (entry_of line) refl in
    behind_step mark w line lines (entry_of line) (walked mark w (line ∷ lines)) not refl
    (subst (λ (v : Walk). Walks mark v lines [] (walked mark w (line ∷ lines))) is
    (walks_behind mark lines (with_line mark w line) (ap (λ (v : Walk). v.is_whole) is ∙ stays_behind mark w (length line) (entry_of line) not)))

-- ---- whole lines

-- a whole line more
put_whole : (mark : Option Link) (w : Walk) (line : List ℕ) (lines : List (List ℕ)) (e : Entry) (es : List Entry) (r : Walk) → entry_of line ≡ Some e
    → Walks mark (with_whole mark w (length line) e) lines es r → Walks mark w (line ∷ lines) (e ∷ es) r
put_whole mark w line lines e es r said walks = record {
  last = walks.last;
  end =
      let more : w.so_far.end + (length line + 1) + length (joined (take (length es) lines)) ≡ w.so_far.end + length ((line ++ (10 ∷ [])) ++ joined (take (length es) lines)) =
      omega (arith, length-append (line ++ (10 ∷ [])) (joined (take (length es) lines)), length-append line (10 ∷ [])) in
      walks.end ∙ more;
  durable =
      let more : max (max w.so_far.durable e.durable) (told_durable lines) ≡ max w.so_far.durable (max e.durable (told_durable lines)) = omega arith in
      walks.durable ∙ more ∙ ap (λ o. max w.so_far.durable (max (option_map_or (λ e. e.durable) o 0) (told_durable lines))) (sym said);
  marked = walks.marked ∙ and_assoc w.is_marked (agrees mark (link_of e)) (list_all (λ e. agrees mark (link_of e)) es);
  count = walks.count;
  first = walks.first;
}

-- where a line does not follow, all that come are behind
ends_here : (mark : Option Link) (w : Walk) (line : List ℕ) (lines : List (List ℕ)) (o : Option Entry) → entry_of line ≡ o → (with_entry mark w (length line) o).is_whole ≡ false
    → (Walks mark (with_entry mark w (length line) o) lines [] (walked mark w (line ∷ lines)) → Walks mark w (line ∷ lines) [] (walked mark w (line ∷ lines)))
    → Walks mark w (line ∷ lines) [] (walked mark w (line ∷ lines))
ends_here mark w line lines o said not step =
    let is : with_line mark w line ≡ with_entry mark w (length line) o = line_is mark w line o said in
    step
    (subst (λ (v : Walk). Walks mark v lines [] (walked mark w (line ∷ lines))) is
    (walks_behind mark lines (with_line mark w line) (ap (λ (v : Walk). v.is_whole) is ∙ not)))

-- walks over these lines from a walk whose lines are whole
abbrev WholeWalks : Option Link → List (List ℕ) → Type 0
WholeWalks mark lines = (v : Walk) → v.is_whole ≡ true → Walks mark v lines (whole v.so_far.last lines) (walked mark v lines)

with_none : (mark : Option Link) (line : List ℕ) (lines : List (List ℕ)) (w : Walk) → entry_of line ≡ None
    → Walks mark w (line ∷ lines) (whole w.so_far.last (line ∷ lines)) (walked mark w (line ∷ lines))
with_none mark line lines w said =
    subst (λ (es : List Entry). Walks mark w (line ∷ lines) es (walked mark w (line ∷ lines)))
    (sym (whole_none w.so_far.last line lines (next_none w.so_far.last line said)))
    (ends_here mark w line lines None said refl (λ walks. skipped mark w line lines (walked mark w (line ∷ lines)) said walks))

by_follow : (mark : Option Link) (line : List ℕ) (lines : List (List ℕ)) (w : Walk) → w.is_whole ≡ true → WholeWalks mark lines → (e : Entry) (b : Bool)
    → entry_of line ≡ Some e → follows w.so_far.last e ≡ b → Walks mark w (line ∷ lines) (whole w.so_far.last (line ∷ lines)) (walked mark w (line ∷ lines))
by_follow mark line lines w so_far rest e true said is =
    let here : with_line mark w line ≡ with_whole mark w (length line) e = line_is mark w line (Some e) said ∙ by_following mark w (length line) e true so_far is in
    let walks : Walks mark (with_whole mark w (length line) e) lines (whole (link_of e) lines) (walked mark w (line ∷ lines)) =
    subst (λ (v : Walk). Walks mark v lines (whole v.so_far.last lines) (walked mark w (line ∷ lines))) here
    (rest (with_line mark w line) (ap (λ (v : Walk). v.is_whole) here)) in
    subst (λ (es : List Entry). Walks mark w (line ∷ lines) es (walked mark w (line ∷ lines)))
    (sym (whole_more w.so_far.last line lines e (next_is w.so_far.last line e true said is)))
    (put_whole mark w line lines e (whole (link_of e) lines) (walked mark w (line ∷ lines)) said walks)
by_follow mark line lines w so_far rest e false said is =
    let here : with_entry mark w (length line) (Some e) ≡ with_behind w e = by_following mark w (length line) e false so_far is in
    subst (λ (es : List Entry). Walks mark w (line ∷ lines) es (walked mark w (line ∷ lines)))
    (sym (whole_none w.so_far.last line lines (next_is w.so_far.last line e false said is)))
    (ends_here mark w line lines (Some e) said (ap (λ (v : Walk). v.is_whole) here)
    (λ walks.
    put_behind mark w line lines e (walked mark w (line ∷ lines)) said
    (subst (λ (v : Walk). Walks mark v lines [] (walked mark w (line ∷ lines))) here walks)))

by_entry : (mark : Option Link) (line : List ℕ) (lines : List (List ℕ)) (w : Walk) → w.is_whole ≡ true → WholeWalks mark lines → (o : Option Entry) → entry_of line ≡ o
    → Walks mark w (line ∷ lines) (whole w.so_far.last (line ∷ lines)) (walked mark w (line ∷ lines))
by_entry mark line lines w so_far rest None said = with_none mark line lines w said
by_entry mark line lines w so_far rest (Some e) said = by_follow mark line lines w so_far rest e (follows w.so_far.last e) said refl

walks_whole : (mark : Option Link) (lines : List (List ℕ)) → WholeWalks mark lines
walks_whole mark [] w so_far = none_walk mark w
walks_whole mark (line ∷ lines) w so_far = by_entry mark line lines w so_far (walks_whole mark lines) (entry_of line) refl

-- ---- all lines

rebuilt : (n : ℕ) (r : Recovered) (last : Link) (end durable count : ℕ) (first : Option ℕ) → r.last ≡ last → r.end ≡ end → r.durable ≡ durable → r.behind.lines ≡ count → r.behind.first ≡ first
    → with_count n r ≡ record { last = last; end = end; durable = durable; behind = record { bytes = n - end; lines = count; first = first } }
rebuilt n r last end durable count first a b c d e =
    ap (λ (x : Link). record { last = x; end = r.end; durable = r.durable; behind = record { bytes = n - r.end; lines = r.behind.lines; first = r.behind.first } }) a
    ∙ ap (λ (x : ℕ). record { last = last; end = x; durable = r.durable; behind = record { bytes = n - x; lines = r.behind.lines; first = r.behind.first } }) b
    ∙ ap (λ (x : ℕ). record { last = last; end = end; durable = x; behind = record { bytes = n - end; lines = r.behind.lines; first = r.behind.first } }) c
    ∙ ap (λ (x : ℕ). record { last = last; end = end; durable = durable; behind = record { bytes = n - end; lines = x; first = r.behind.first } }) d
    ∙ ap (λ (x : Option ℕ). record { last = last; end = end; durable = durable; behind = record { bytes = n - end; lines = count; first = x } }) e

same_recovered : (base : Link) (mark : Option Link) (n : ℕ) (lines : List (List ℕ)) (w : Walk) → Walks mark (walk_from base mark) lines (whole base lines) w
    → with_count n w.so_far ≡ recovered_with base mark n lines (whole base lines)
same_recovered base mark n lines w walks =
    rebuilt n w.so_far _ _ _ _ _ walks.last (walks.end ∙ zero-add (end_of lines (whole base lines))) walks.durable
    (walks.count ∙ zero-add (length (entries (drop (length (whole base lines)) lines)))) walks.first

pub judged_whole : (base : Link) (mark : Option Link) (bytes : List ℕ) (w : Walk) → w ≡ walked mark (walk_from base mark) (ended bytes)
    → judged mark w.is_marked (with_count (length bytes) w.so_far) ≡ recovered_of base mark bytes
judged_whole base mark bytes w is =
    let lines = ended bytes in
    let walks : Walks mark (walk_from base mark) lines (whole base lines) w =
    subst (Walks mark (walk_from base mark) lines (whole base lines)) (sym is) (walks_whole mark lines (walk_from base mark) refl) in
    ap (λ (b : Bool). judged mark b (with_count (length bytes) w.so_far)) walks.marked
    ∙ ap (judged mark (is_marked base mark (whole base lines))) (same_recovered base mark (length bytes) lines w walks)

-- ---- room

entry_room : (mark : Option Link) (w : Walk) (count : ℕ) (o : Option Entry)
    → (with_entry mark w count o).so_far.end + (with_entry mark w count o).so_far.behind.lines ≤ w.so_far.end + w.so_far.behind.lines + (count + 1)
entry_room mark w count None = omega arith
entry_room mark w count (Some e) =
    elim (w.is_whole && follows w.so_far.last e) as
    (λ b. let v = cond b (with_whole mark w count e) (with_behind w e) in v.so_far.end + v.so_far.behind.lines ≤ w.so_far.end + w.so_far.behind.lines + (count + 1)) [
      | true ↦ omega arith
      | false ↦ omega arith
    ]

-- a line more takes as much of the end and of the lines behind as it is long
pub line_room : (mark : Option Link) (w : Walk) (line : List ℕ)
    → (with_line mark w line).so_far.end + (with_line mark w line).so_far.behind.lines ≤ w.so_far.end + w.so_far.behind.lines + (length line + 1)
unfolding with_line
line_room mark w line = entry_room mark w (length line) (entry_of line)

-- a walk over lines is no longer than they are
pub lines_room : (mark : Option Link) (lines : List (List ℕ)) (w : Walk)
    → (walked mark w lines).so_far.end + (walked mark w lines).so_far.behind.lines ≤ w.so_far.end + w.so_far.behind.lines + length (joined lines)
lines_room mark [] w = omega arith
lines_room mark (line ∷ lines) w =
    let rest = lines_room mark lines (with_line mark w line) in
    let here = line_room mark w line in
    let long = length-append (line ++ (10 ∷ [])) (joined lines) in
    let ended = length-append line (10 ∷ []) in omega arith
