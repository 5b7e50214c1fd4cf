-- Journals, run again on empty tables.
use Rattle.std.proofs.Common.{◌≡◌, ◌⊎◌, inl, inr, ℕ, ◌<◌, ◌==◌, true, false, List, [], ◌∷◌, ◌++◌, Some, length, map, get_or, slice_set, refl, sym, ap, ap₂, ◌∙◌, subst, arith, append_assoc, length-append}
use Rattle.std.specs.Prelude.{⊤, bytes_eq, codes}
use Rattle.std.specs.List.{All, AllByRecursion, list_any, position_or_len}
use Rattle.std.proofs.lemmas.Bool.{and_parts, le-leb, lt-ltb, not-true, or_parts}
use Rattle.std.proofs.lemmas.Grind.{flat_map-append}
use Rattle.std.proofs.lemmas.List.Elements.{recursion_from_All}
use Rattle.std.proofs.lemmas.List.Splits.{slice_split_at}
use Rattle.std.proofs.lemmas.Slice.Eq.{bytes_eq-Decides}
use Rattle.command_text.specs.Text.{command_text}
use Rattle.command_text.proofs.Law.{command_text_line, meaning-command_text}
use Rattle.table_cmd.specs.Command.{table_in}
use Rattle.table_engine.specs.Lines.{max_line, short}
use Rattle.table_engine.specs.Tables.{AnswersLine, MayAnswer, answer_to, stepped, table_at}
use Rattle.table_engine.specs.Whole.{AnswersLines, as_line, lines_of}
use Rattle.table_engine.proofs.Tables.{carried-at, step_of-named}
use Rattle.table_engine.proofs.Serving.{lines-from_Run}
use Rattle.table_reply.specs.Buffer.{joined}
use Rattle.table_schema.specs.Shape.{TableShape}
use Rattle.table_schema.specs.Valid.{IsValidSchema, are_distinct}
use Rattle.table_step.specs.Step.{TableState, memory_line, new_table, step_of}
use Rattle.shared_tables.specs.Again.{CanBeRead, RunsAgain, StopsAtMemory, answers_in, replays}
use Rattle.shared_tables.specs.Journal.{EntryData, LegalAfter, is_write, line_of, replay, replay_from}
use Rattle.shared_tables.specs.Journals.{AreJournals, IsLegalCell, cells_of}
use Rattle.shared_tables.specs.Text.{entries_in, entry_line, journal_text, journals_text}
use Rattle.shared_tables.proofs.Entries.{replay_from-push}
use Rattle.shared_tables.proofs.Shapes.{keeps_name, names_table}

-- ---- one table among others

set_mid : (done later : List TableState) (t u : TableState) → slice_set (done ++ t ∷ later) (length done) u ≡ done ++ u ∷ later
set_mid [] later t u = refl
set_mid (d ∷ done) later t u = ap (λ ts. d ∷ ts) (set_mid done later t u)

get_mid : (done later : List TableState) (t d : TableState) → get_or (done ++ t ∷ later) (length done) d ≡ t
get_mid [] later t d = refl
get_mid (x ∷ done) later t d = get_mid done later t d

-- each of these tables has another name
abbrev Others : List TableState → List ℕ → Type 0
Others done name = AllByRecursion (λ d. bytes_eq d.shape.name name ≡ false) done

place_named : (done later : List TableState) (t : TableState) (name : List ℕ) → Others done name → bytes_eq t.shape.name name ≡ true
    → position_or_len (λ u. bytes_eq u.shape.name name) (done ++ t ∷ later) ≡ length done
place_named [] later t name others here = rw here refl
place_named (d ∷ done) later t name others here =
    let rest = place_named done later t name others.1 here in
    rw others.0 (omega (arith, rest))

first_named : (done later : List TableState) (t : TableState) (name : List ℕ) → Others done name → bytes_eq t.shape.name name ≡ true
    → table_at (done ++ t ∷ later) name ≡ Some (length done)
first_named done later t name others here =
    let within : length done < length (done ++ t ∷ later) = omega (arith, length-append done (t ∷ later)) in
    rw (place_named done later t name others here, lt-ltb (length done) (length (done ++ t ∷ later)) within) refl

-- ---- the line of an entry

-- what an accepted write tells and leaves
abbrev IsTold : List TableState → List TableState → TableState → EntryData → List ℕ → List TableState → Type 0
IsTold done later t e text new = (text ≡ e.answer) × (new ≡ done ++ (step_of t e.command).table ∷ later)

line_again : (done later : List TableState) (t : TableState) (e : EntryData) (text : List ℕ) (new : List TableState) → CanBeRead e → Others done t.shape.name
    → is_write (step_of t e.command).outcome ≡ true → e.answer ≡ line_of (step_of t e.command)
    → AnswersLine (done ++ t ∷ later) (as_line (command_text e.command)) text new → IsTold done later t e text new ⊎ (text ≡ memory_line)
line_again done later t e text new readable others write answer h =
    let c = e.command in
    let tables = done ++ t ∷ later in
    let named : bytes_eq (table_in c) t.shape.name ≡ true = names_table t c write in
    let same : table_in c ≡ t.shape.name = (bytes_eq-Decides (table_in c) t.shape.name).0 named in
    let here : bytes_eq t.shape.name (table_in c) ≡ true = (bytes_eq-Decides t.shape.name (table_in c)).1 (sym same) in
    let at = first_named done later t (table_in c) (subst (Others done) (sym same) others) here in
    let is = carried-at tables c (length done) t at (sym (get_mid done later t t)) ∙ ap (stepped tables (length done)) (sym (step_of-named t c here)) in
    let whole : as_line (command_text c) ≡ short (command_text c) = rw (le-leb (length (command_text c)) max_line readable.short) refl in
    let line : AnswersLine tables (short (command_text c)) text new = subst (λ l. AnswersLine tables l text new) whole h in
    let meant = subst (λ r. MayAnswer tables (answer_to tables r) text new) (meaning-command_text c readable.fits) line in
    elim (subst (λ carried. MayAnswer tables carried text new) is meant) [
      | inl told ↦ inl (told.0 ∙ sym answer, told.1 ∙ set_mid done later t (step_of t c).table)
      | inr memory ↦ inr memory.0
    ]

-- ---- the lines of a journal

-- each entry is an accepted write of the table that those before it leave
abbrev Follows : TableState → List EntryData → Type 0
Follows t [] = ⊤
Follows t (e ∷ es) =
    (is_write (step_of t e.command).outcome ≡ true) × (e.answer ≡ line_of (step_of t e.command)) × Follows (step_of t e.command).table es

follows : (shape : TableShape) (past es : List EntryData) → LegalAfter shape past es → Follows (replay shape past) es
follows shape past [] h = tt
follows shape past (e ∷ es) h =
    (h.0.write, h.0.answer, subst (λ t. Follows t es) (replay_from-push (new_table shape) past e) (follows shape (past ++ e ∷ []) es h.1))

keeps_replay : (t : TableState) (es : List EntryData) → (replay_from t es).shape.name ≡ t.shape.name
keeps_replay t [] = refl
keeps_replay t (e ∷ es) = keeps_replay (step_of t e.command).table es ∙ keeps_name t e.command

-- the entries' answers, and then those to the lines after them
abbrev Goes : List ℕ → List EntryData → List (List ℕ) → List TableState → List TableState → Type 0
Goes text es lines next new = StopsAtMemory text es ⊎ ((more : List ℕ) × (text ≡ answers_in es ++ more) × AnswersLines next lines more new)

goes_on : (text first rest : List ℕ) (e : EntryData) (es : List EntryData) (lines : List (List ℕ)) (next new : List TableState)
    → text ≡ first ++ rest → first ≡ e.answer → Goes rest es lines next new → Goes text (e ∷ es) lines next new
goes_on text first rest e es lines next new is told (inl s) =
    inl (e ∷ s.0, s.1, s.2, ap (λ xs. e ∷ xs) s.3, is ∙ ap₂ (λ (a b : List ℕ). a ++ b) told s.4 ∙ sym (append_assoc e.answer (answers_in s.0) (memory_line ++ s.2)))
goes_on text first rest e es lines next new is told (inr r) =
    inr (r.0, is ∙ ap₂ (λ (a b : List ℕ). a ++ b) told r.1 ∙ sym (append_assoc e.answer (answers_in es) r.0), r.2)

lines_after : (e : EntryData) (es : List EntryData) (rest : List ℕ) → CanBeRead e → lines_of (journal_text (e ∷ es) ++ rest) ≡ command_text e.command ∷ lines_of (journal_text es ++ rest)
lines_after e es rest readable =
    let text = command_text e.command in
    let later = journal_text es ++ rest in
    ap lines_of (append_assoc (entry_line e) (journal_text es) rest ∙ append_assoc text (codes "\n") later)
    ∙ slice_split_at (λ b. b == 10) text 10 later (command_text_line e.command readable.fits) refl

entries_again : (done later : List TableState) (t : TableState) (es : List EntryData) (rest text : List ℕ) (new : List TableState) → AllByRecursion CanBeRead es
    → Others done t.shape.name → Follows t es → AnswersLines (done ++ t ∷ later) (lines_of (journal_text es ++ rest)) text new
    → Goes text es (lines_of rest) (done ++ replay_from t es ∷ later) new
entries_again done later t [] rest text new readable others follow h = inr (text, refl, h)
entries_again done later t (e ∷ es) rest text new readable others follow h =
    let after = (step_of t e.command).table in
    let lines = lines_of (journal_text es ++ rest) in
    let g = subst (λ ls. AnswersLines (done ++ t ∷ later) ls text new) (lines_after e es rest readable.0) h in
    elim (line_again done later t e g.1 g.0 readable.0 others follow.0 follow.1 g.4) [
      | inl told ↦
          let apart = subst (Others done) (sym (keeps_name t e.command)) others in
          goes_on text g.1 g.2 e es (lines_of rest) (done ++ replay_from after es ∷ later) new g.3 told.0
          (entries_again done later after es rest g.2 new readable.1 apart follow.2 (subst (λ ts. AnswersLines ts lines g.2 new) told.1 g.5))
      | inr memory ↦ inl ([], e ∷ es, g.2, refl, g.3 ∙ ap (λ t. t ++ g.2) memory)
    ]

-- ---- the lines of all journals

-- each of these tables has another name than each of the schema
abbrev Apart : List TableShape → List TableState → Type 0
Apart schema done = AllByRecursion (λ d. AllByRecursion (λ s. bytes_eq d.shape.name s.name ≡ false) schema) done

apart_first : (shape : TableShape) (schema : List TableShape) (done : List TableState) → Apart (shape ∷ schema) done → Others done shape.name
apart_first shape schema [] h = tt
apart_first shape schema (d ∷ done) h = (h.0.0, apart_first shape schema done h.1)

named_apart : (name : List ℕ) (schema : List TableShape) → list_any (bytes_eq name) (map (λ (s : TableShape). s.name) schema) ≡ false
    → AllByRecursion (λ s. bytes_eq name s.name ≡ false) schema
named_apart name [] e = tt
named_apart name (s ∷ schema) e = let p = or_parts (bytes_eq name s.name) _ e in (p.0, named_apart name schema p.1)

apart_more : (shape : TableShape) (schema : List TableShape) (done : List TableState) (t : TableState) → Apart (shape ∷ schema) done
    → AllByRecursion (λ s. bytes_eq t.shape.name s.name ≡ false) schema → Apart schema (done ++ t ∷ [])
apart_more shape schema [] t h k = (k, tt)
apart_more shape schema (d ∷ done) t h k = (h.0.1, apart_more shape schema done t h.1 k)

every_part : {X : Type 0} (P : X → Type 0) (xs ys : List X) → AllByRecursion P (xs ++ ys) → AllByRecursion P xs × AllByRecursion P ys
every_part P [] ys h = (tt, h)
every_part P (x ∷ xs) ys h = let r = every_part P xs ys h.1 in ((h.0, r.0), r.1)

abbrev Ends : List ℕ → List EntryData → List TableState → List TableState → Type 0
Ends text entries tables new = StopsAtMemory text entries ⊎ ((text ≡ answers_in entries) × (new ≡ tables))

stops_within : (text : List ℕ) (es later : List EntryData) → StopsAtMemory text es → StopsAtMemory text (es ++ later)
stops_within text es later s = (s.0, s.1 ++ later, s.2, sym (append_assoc s.0 s.1 later) ∙ ap (λ xs. xs ++ later) s.3, s.4)

ends_after : (text more : List ℕ) (es later : List EntryData) (tables tables' new : List TableState) → text ≡ answers_in es ++ more → tables ≡ tables'
    → Ends more later tables new → Ends text (es ++ later) tables' new
ends_after text more es later tables tables' new is same (inl s) =
    inl (
      es ++ s.0,
      s.1,
      s.2,
      append_assoc es s.0 s.1 ∙ ap (λ xs. es ++ xs) s.3,
      is ∙ ap (λ t. answers_in es ++ t) s.4 ∙ sym (append_assoc (answers_in es) (answers_in s.0) (memory_line ++ s.2))
          ∙ ap (λ t. t ++ (memory_line ++ s.2)) (sym (flat_map-append (λ (e : EntryData). e.answer) es s.0)),
    )
ends_after text more es later tables tables' new is same (inr p) =
    inr (is ∙ ap (λ t. answers_in es ++ t) p.0 ∙ sym (flat_map-append (λ (e : EntryData). e.answer) es later), p.1 ∙ same)

tables_again : (done : List TableState) (schema : List TableShape) (workers : ℕ) (journals : List (List EntryData)) (text : List ℕ) (new : List TableState)
    → Apart schema done → are_distinct bytes_eq (map (λ (s : TableShape). s.name) schema) ≡ true → length journals ≡ length schema
    → AllByRecursion IsLegalCell (cells_of schema workers journals) → AllByRecursion CanBeRead (entries_in journals)
    → AnswersLines (done ++ map new_table schema) (lines_of (journals_text journals)) text new → Ends text (entries_in journals) (done ++ replays schema journals) new
tables_again done [] workers [] text new apart distinct count legal readable h =
    inr (h.3 ∙ ap₂ (λ (a b : List ℕ). a ++ b) h.4.0 h.5.0, h.5.1 ∙ h.4.1)
tables_again done [] workers (j ∷ js) text new apart distinct count legal readable h = cc
tables_again done (shape ∷ schema) workers [] text new apart distinct count legal readable h = cc
tables_again done (shape ∷ schema) workers (j ∷ js) text new apart distinct count legal readable h =
    let names = and_parts _ _ distinct in
    let parts = every_part CanBeRead j (entries_in js) readable in
    let left = replay shape j in
    elim (entries_again done (map new_table schema) (new_table shape) j (journals_text js) text new parts.0 (apart_first shape schema done apart) (follows shape [] j legal.0) h) [
      | inl stops ↦ inl (stops_within text j (entries_in js) stops)
      | inr r ↦
          let same : left.shape.name ≡ shape.name = keeps_replay (new_table shape) j in
          let unlike = named_apart shape.name schema (not-true _ names.0) in
          let unlike' = subst (λ (name : List ℕ). AllByRecursion (λ o. bytes_eq name o.name ≡ false) schema) (sym same) unlike in
          let lines = subst (λ ts. AnswersLines ts (lines_of (journals_text js)) r.0 new) (sym (append_assoc done (left ∷ []) (map new_table schema))) r.2 in
          ends_after text r.0 j (entries_in js) _ (done ++ left ∷ replays schema js) new r.1 (append_assoc done (left ∷ []) (replays schema js))
          (tables_again (done ++ left ∷ []) schema workers js r.0 new (apart_more shape schema done left apart unlike') names.1 (omega arith) legal.1 parts.1 lines)
    ]

pub runs_again : (schema : List TableShape) (workers : ℕ) (journals : List (List EntryData)) → IsValidSchema schema → AreJournals schema workers journals
    → All CanBeRead (entries_in journals) → RunsAgain schema journals
runs_again schema workers journals valid are readable = λ old new session told fresh within idle run.
    let lines = lines-from_Run session old new (journals_text journals) told within idle run in
    tables_again [] schema workers journals (joined told) new.tables tt (and_parts _ _ valid.names).1 are.tables (recursion_from_All IsLegalCell (cells_of schema workers journals) are.legal)
    (recursion_from_All CanBeRead (entries_in journals) readable) (subst (λ ts. AnswersLines ts (lines_of (journals_text journals)) (joined told) new.tables) fresh lines)
