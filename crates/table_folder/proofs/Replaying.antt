-- What the first writes of a log leave of a table.
use Rattle.std.proofs.Common.{◌≡◌, ℕ, zero, suc, ◌+◌, ◌<◌, ◌≤◌, ◌==◌, Bool, true, List, [], ◌∷◌, ◌++◌, drop, length, take, nat_le, Option, Some, None, refl, sym, ap, subst, ◌∙◌, arith, append_assoc}
use Rattle.std.specs.Prelude.{map, option_and_then}
use Rattle.std.specs.List.{AllByRecursion, onto_first, slice_split}
use Rattle.std.proofs.lemmas.Bool.{and_parts, leb-true, ne_eqb}
use Rattle.std.proofs.lemmas.List.{length-map, take-append-drop, take-map}
use Rattle.std.proofs.lemmas.List.Splits.{length-slice_split, slice_split-cons_no}
use Rattle.checked_disk.specs.Plain.{plain_lines}
use Rattle.checked_log.specs.Chain.{Chained}
use Rattle.checked_log.specs.Line.{Entry, is_plain}
use Rattle.checked_log.specs.Whole.{link_of}
use Rattle.checked_log.specs.declared.recovery.Link.{Link}
use Rattle.table_folder.specs.Joined.{AreAccepted}
use Rattle.table_log.specs.Log.{after_line, after_lines, all_but_last, replayed, whole_lines}
use Rattle.table_log.proofs.Replays.{after_first}
use Rattle.table_schema.specs.Shape.{TableShape}
use Rattle.table_state.specs.Standing.{CanStand}
use Rattle.table_state.specs.Staying.{CanBeSaid}
use Rattle.table_terms.specs.Table.{IsOfSameTable, TableState}
use Rattle.table_folder.proofs.Accepted.{advances}

-- ---- plain lines

abbrev writes_of : List Entry → List (List ℕ)
writes_of es = map (λ e. e.write) es

abbrev newline : ℕ → Bool
newline b = b == 10

-- a write has no newline, so its line ends where it does
write_cut : (write rest : List ℕ) → is_plain write ≡ true → slice_split newline (write ++ (10 ∷ rest)) ≡ write ∷ slice_split newline rest
write_cut [] rest plain = refl
write_cut (b ∷ write) rest plain =
    let parts = and_parts (nat_le 32 b) (is_plain write) plain in
    let least : 32 ≤ b = leb-true 32 b parts.0 in
    slice_split-cons_no newline b (write ++ (10 ∷ rest)) (ne_eqb b 10 (λ e. absurd (omega arith))) ∙ ap (onto_first b) (write_cut write rest parts.1)

first_kept : (x : List ℕ) (parts : List (List ℕ)) → 0 < length parts → all_but_last (x ∷ parts) ≡ x ∷ all_but_last parts
first_kept x [] some = absurd (omega arith)
first_kept x (y ∷ ys) some = refl

-- the lines of plain lines are their writes
pub plain_writes : (link : Link) (es : List Entry) → Chained link es → whole_lines (plain_lines es) ≡ writes_of es
plain_writes link [] chain = refl
plain_writes link (e ∷ es) chain =
    let text : plain_lines (e ∷ es) ≡ e.write ++ (10 ∷ plain_lines es) = append_assoc e.write (10 ∷ []) (plain_lines es) in
    ap whole_lines text ∙ ap all_but_last (write_cut e.write (plain_lines es) chain.0.write)
    ∙ first_kept e.write (slice_split newline (plain_lines es)) (omega (arith, length-slice_split newline (plain_lines es)))
    ∙ ap (λ (ls : List (List ℕ)). e.write ∷ ls) (plain_writes (link_of e) es chain.3)

-- ---- the table

-- After accepted writes: so many more are counted, of the same declaration, and the table can stand.
pub record IsAfter (shape : TableShape) (t : TableState) (count : ℕ) (then : TableState) : Type 0 where
  pub number : then.records.writes ≡ t.records.writes + count
  pub stands : CanStand then
  pub same : IsOfSameTable then.shape shape

module _ (shape : TableShape) (line : List ℕ) (lines : List (List ℕ)) (said : CanBeSaid line)
    (rest : (t then : TableState) → CanStand t → IsOfSameTable t.shape shape → after_lines t lines ≡ Some then → IsAfter shape t (length lines) then) where
  after_by : (o : Option TableState) (t then : TableState) → after_line t line ≡ o → CanStand t → IsOfSameTable t.shape shape
      → option_and_then (λ next. after_lines next lines) o ≡ Some then → IsAfter shape t (suc (length lines)) then
  after_by None t then is stands same leave = cc
  after_by (Some next) t then is stands same leave =
      let step = advances t next line said stands is in
      let more = rest next then step.stands (step.same shape same) leave in
      record { number = omega (arith, step.number, more.number); stands = more.stands; same = more.same }

pub is_after : (shape : TableShape) (lines : List (List ℕ)) (t then : TableState) → AllByRecursion CanBeSaid lines → CanStand t → IsOfSameTable t.shape shape
    → after_lines t lines ≡ Some then → IsAfter shape t (length lines) then
is_after shape [] t then said stands same leave = let is : t ≡ then = cc in subst (λ (x : TableState). IsAfter shape t 0 x) is (record { number = omega arith; stands = stands; same = same })
is_after shape (line ∷ lines) t then said stands same leave =
    after_by shape line lines said.0 (λ t then. is_after shape lines t then said.1) (after_line t line) t then refl stands same leave

-- ---- a front

front_said : (k : ℕ) (lines : List (List ℕ)) → AllByRecursion CanBeSaid lines → AllByRecursion CanBeSaid (take k lines)
front_said zero lines said = tt
front_said (suc k) [] said = tt
front_said (suc k) (line ∷ lines) said = (said.0, front_said k lines said.1)

-- the first of accepted writes leave a table
pub record FirstLeave (shape : TableShape) (t : TableState) (es : List Entry) (count : ℕ) : Type 0 where
  pub table : TableState
  pub leave : replayed t (plain_lines (take count es)) ≡ Some table
  pub after : IsAfter shape t (length (take count es)) table

pub first_leave : (shape : TableShape) (t then : TableState) (link : Link) (es : List Entry) (k : ℕ) → AreAccepted t es then → Chained link es → Chained link (take k es) → CanStand t
    → IsOfSameTable t.shape shape → FirstLeave shape t es k
first_leave shape t then link es k accepted chain front_chain stands same =
    let lines = writes_of es in
    let parts : take k lines ++ drop k lines ≡ lines = take-append-drop k lines in
    let all : whole_lines (plain_lines es) ≡ lines = plain_writes link es chain in
    let texts : take k lines ≡ writes_of (take k es) = take-map (λ (e : Entry). e.write) k es in
    let said : AllByRecursion CanBeSaid (take k lines) = front_said k lines (subst (AllByRecursion CanBeSaid) all accepted.said) in
    let front = after_first (take k lines) (drop k lines) t then (ap (after_lines t) (parts ∙ sym all) ∙ accepted.leave) in
    let here : IsAfter shape t (length (take k lines)) front.0 = is_after shape (take k lines) t front.0 said stands same front.1 in
    record {
      table = front.0;
      leave = ap (after_lines t) (plain_writes link (take k es) front_chain ∙ sym texts) ∙ front.1;
      after = subst (λ (n : ℕ). IsAfter shape t n front.0) (ap length texts ∙ length-map (take k es) (λ (e : Entry). e.write)) here;
    }
