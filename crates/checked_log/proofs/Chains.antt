-- The whole log of bytes is a chain of lines at their front, and a chain at the front is whole.
use Rattle.std.proofs.Common.{◌≡◌, ℕ, ◌+◌, ◌==◌, cond, Bool, true, false, List, [], ◌∷◌, ◌++◌, length, take, Option, Some, None, refl, sym, ap, ◌∙◌, arith, append_assoc}
use Rattle.std.specs.Prelude.{map}
use Rattle.std.specs.Option.{option_map_or}
use Rattle.std.proofs.lemmas.Bool.{and_from, and_parts, eq-eqb, eqb-true}
use Rattle.checked_log.specs.Chain.{Chained, log_text}
use Rattle.checked_log.specs.Line.{Entry, entry_of, line_text}
use Rattle.checked_log.specs.Whole.{ended, follows, last_link, link_of, next, whole}
use Rattle.checked_log.specs.declared.recovery.Link.{Link}
use Rattle.checked_log.proofs.Ended.{ended_cut}
use Rattle.checked_log.proofs.Lacking.{line_lacks}
use Rattle.checked_log.proofs.Reading.{entry_of-well_formed, well_formed-entry_of}
use Rattle.checked_log.proofs.Wholes.{next_is, whole_more, whole_none}

-- ---- a chain at the front

pub chained_lines : (link : Link) (es : List Entry) (y : List ℕ) → Chained link es → ended (log_text es ++ y) ≡ map line_text es ++ ended y
chained_lines link [] y chain = refl
chained_lines link (e ∷ es) y chain =
    let first : log_text (e ∷ es) ++ y ≡ line_text e ++ (10 ∷ (log_text es ++ y)) = simp append_assoc in
    ap ended first ∙ ended_cut (line_text e) (log_text es ++ y) (line_lacks e chain.0)
    ∙ ap (λ (ls : List (List ℕ)). line_text e ∷ ls) (chained_lines (link_of e) es y chain.3)

pub chained_whole : (link : Link) (es : List Entry) (lines : List (List ℕ)) → Chained link es
    → whole link (map line_text es ++ lines) ≡ es ++ whole (last_link link es) lines
chained_whole link [] lines chain = refl
chained_whole link (e ∷ es) lines chain =
    let said : entry_of (line_text e) ≡ Some e = entry_of-well_formed (line_text e) e (record { fits = chain.0; is_text = refl }) in
    let is : follows link e ≡ true = and_from _ _ (eq-eqb e.number (link.number + 1) chain.1) (eq-eqb e.before link.digest chain.2) in
    whole_more link (line_text e) (map line_text es ++ lines) e (next_is link (line_text e) e true said is)
    ∙ ap (λ (l : List Entry). e ∷ l) (chained_whole (link_of e) es lines chain.3)

-- ---- the whole log

-- these entries are a chain, and their texts are the first lines
pub record IsFrontOf (link : Link) (lines : List (List ℕ)) (es : List Entry) : Type 0 where
  pub chain : Chained link es
  pub texts : take (length es) lines ≡ map line_text es

by_test : (link : Link) (line : List ℕ) (e f : Entry) (b : Bool) → follows link f ≡ b → entry_of line ≡ Some f → cond b (Some f) None ≡ Some e
    → (entry_of line ≡ Some e) × (follows link e ≡ true)
by_test link line e f false test said is = cc
by_test link line e f true test said is = let same : f ≡ e = cc in (said ∙ ap Some same, ap (follows link) (sym same) ∙ test)

follows_is : (link : Link) (line : List ℕ) (e : Entry) (o : Option Entry) → entry_of line ≡ o → option_map_or (λ e. cond (follows link e) (Some e) None) o None ≡ Some e
    → (entry_of line ≡ Some e) × (follows link e ≡ true)
follows_is link line e None said is = cc
follows_is link line e (Some f) said is = by_test link line e f (follows link f) refl said is

put_front : (link : Link) (line : List ℕ) (lines : List (List ℕ)) (e : Entry) (es : List Entry) → entry_of line ≡ Some e → follows link e ≡ true
    → IsFrontOf (link_of e) lines es → IsFrontOf link (line ∷ lines) (e ∷ es)
put_front link line lines e es said is front =
    let well = well_formed-entry_of line e said in
    let tests = and_parts (e.number == link.number + 1) (e.before == link.digest) is in
    record {
      chain = (well.fits, eqb-true e.number (link.number + 1) tests.0, eqb-true e.before link.digest tests.1, front.chain);
      texts = ap (λ (l : List ℕ). l ∷ take (length es) lines) well.is_text ∙ ap (λ (ls : List (List ℕ)). line_text e ∷ ls) front.texts;
    }

whole_front_by : (link : Link) (line : List ℕ) (lines : List (List ℕ)) (o : Option Entry) → next link line ≡ o → ((l : Link) → IsFrontOf l lines (whole l lines))
    → IsFrontOf link (line ∷ lines) (whole link (line ∷ lines))
whole_front_by link line lines None is rest = rw (whole_none link line lines is) (record { chain = tt; texts = refl })
whole_front_by link line lines (Some e) is rest =
    let parts = follows_is link line e (entry_of line) refl is in
    rw (whole_more link line lines e is) (put_front link line lines e (whole (link_of e) lines) parts.0 parts.1 (rest (link_of e)))

pub whole_front : (lines : List (List ℕ)) (link : Link) → IsFrontOf link lines (whole link lines)
whole_front [] link = record { chain = tt; texts = refl }
whole_front (line ∷ lines) link = whole_front_by link line lines (next link line) refl (whole_front lines)

-- ---- numbers

pub last_number : (link : Link) (es : List Entry) → Chained link es → (last_link link es).number ≡ link.number + length es
last_number link [] chain = omega arith
last_number link (e ∷ es) chain =
    let rest = last_number (link_of e) es chain.3 in
    let number = chain.1 in omega arith
