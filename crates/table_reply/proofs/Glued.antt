-- Glued pieces are the compact texts of answers.
use Rattle.std.proofs.Common.{◌≡◌, ℕ, List, [], ◌∷◌, ◌++◌, Option, codes, decimal, IsTrue, refl, sym, ap, ap₂, ◌∙◌, arith, append_assoc}
use Rattle.std.specs.List.{list_all}
use Rattle.std.proofs.lemmas.Bool.{and_parts}
use Rattle.std.proofs.lemmas.Bool.Decides.{nat_tests}
use Rattle.std.specs.Str.Parse.{AllDigits}
use Rattle.std.proofs.lemmas.Fmt.{decimal_is_IsNumeral}
use Rattle.std.proofs.lemmas.Str.Parse.{digit_from_value}
use Rattle.json.specs.Print.{escape, escape_byte, quoted}
use Rattle.json.proofs.Printed.Strings.{escape_byte_plain}
use Rattle.serde_json.specs.Written.{compact_text}
use Rattle.container_model.specs.declared.handle.Handle.{Handle}
use Rattle.table_reply.specs.declared.fault.Fault.{Fault}
use Rattle.table_reply.specs.declared.fault.Fault.TheVariants as faults
use Rattle.table_reply.specs.Buffer.{joined}
use Rattle.table_reply.specs.Spelling.{HandleFits, spelling}
use Rattle.table_reply.specs.Answer.{answer_text, done, found, counted, after, banned, erased, clash, fault, fault_name, handle_data}
use Rattle.table_reply.specs.Pieces.{blocked_glue, handle_text}
use Rattle.table_reply.specs.Plain.{is_plain}

-- ---- digits and handles need no escape

digits_plain : (ds rest : List ℕ) → AllDigits 10 ds → escape (ds ++ rest) ≡ ds ++ escape rest
digits_plain [] rest h = refl
digits_plain (d ∷ ds) rest h =
    let here = digit_from_value d h.0 in
    ap₂ (λ x xs. x ++ xs) (escape_byte_plain d (λ e. omega (arith, here)) (λ e. omega (arith, here)) (omega (arith, here))) (digits_plain ds rest h.1)

spelling_plain : (h : Handle) → HandleFits h → escape (spelling h) ≡ spelling h
unfolding spelling escape_byte
spelling_plain h fits =
    digits_plain (decimal h.slot) (58 ∷ (decimal h.stamp ++ [])) (decimal_is_IsNumeral h.slot (omega (arith, fits.0))).0.1
    ∙ ap (λ s. decimal h.slot ++ 58 ∷ s) (digits_plain (decimal h.stamp) [] (decimal_is_IsNumeral h.stamp fits.1).0.1)

pub quoted_spelling : (h : Handle) → HandleFits h → quoted (spelling h) ≡ 34 ∷ (spelling h ++ 34 ∷ [])
quoted_spelling h fits = ap (λ s. 34 ∷ (s ++ 34 ∷ [])) (spelling_plain h fits)

-- ---- lines of fixed pieces, from the texts between them

abbrev pub done_glue : List ℕ → List ℕ
done_glue at = joined (codes "{\"at\":" ∷ at ∷ codes ",\"ok\":true}\n" ∷ [])

abbrev pub found_glue : List ℕ → List ℕ → List ℕ
found_glue at h = joined (codes "{\"at\":" ∷ at ∷ codes ",\"h\":" ∷ h ∷ codes ",\"ok\":true}\n" ∷ [])

abbrev pub after_glue : List ℕ → List ℕ → List ℕ
after_glue at next = joined (codes "{\"at\":" ∷ at ∷ codes ",\"next\":" ∷ next ∷ codes ",\"ok\":true}\n" ∷ [])

abbrev pub counted_glue : List ℕ → List ℕ → List ℕ
counted_glue at n = joined (codes "{\"at\":" ∷ at ∷ codes ",\"n\":" ∷ n ∷ codes ",\"ok\":true}\n" ∷ [])

abbrev pub fault_glue : List ℕ → List ℕ
fault_glue name = joined (codes "{\"err\":\"" ∷ name ∷ codes "\"}\n" ∷ [])

pub done_glued : (at : ℕ) → done_glue (decimal at) ≡ answer_text (done at)
unfolding answer_text escape_byte
done_glued at = simp append_assoc

pub found_glued : (at : ℕ) (h : Option Handle) → found_glue (decimal at) (compact_text (handle_data h)) ≡ answer_text (found at h)
unfolding answer_text escape_byte
found_glued at h = simp append_assoc

pub after_glued : (at : ℕ) (next : Option Handle) → after_glue (decimal at) (compact_text (handle_data next)) ≡ answer_text (after at next)
unfolding answer_text escape_byte
after_glued at next = simp append_assoc

pub counted_glued : (at n : ℕ) → counted_glue (decimal at) (decimal n) ≡ answer_text (counted at n)
unfolding answer_text escape_byte
counted_glued at n = simp append_assoc

pub fault_glued : (f : Fault) → fault_glue (fault_name f) ≡ answer_text (fault f)
unfolding answer_text escape_byte
fault_glued faults.Line = refl
fault_glued faults.Json = refl
fault_glued faults.Command = refl
fault_glued faults.Table = refl
fault_glued faults.Index = refl
fault_glued faults.Kind = refl
fault_glued faults.Row = refl
fault_glued faults.Key = refl
fault_glued faults.Definition = refl
fault_glued faults.Handle = refl
fault_glued faults.Place = refl
fault_glued faults.Order = refl
fault_glued faults.Overflow = refl
fault_glued faults.Full = refl
fault_glued faults.Spent = refl
fault_glued faults.Memory = refl

-- ---- lines with a name

abbrev pub clash_glue : List ℕ → List ℕ → List ℕ → List ℕ → List ℕ
clash_glue at index one other = joined (codes "{\"at\":" ∷ at ∷ codes ",\"by\":\"" ∷ index ∷ codes "\",\"err\":\"clash\",\"h\":" ∷ one ∷ codes ",\"h2\":" ∷ other ∷ codes "}\n" ∷ [])

-- a plain text needs no escape
pub escape_plain : (text : List ℕ) → IsTrue (list_all is_plain text) → escape text ≡ text
escape_plain [] h = refl
escape_plain (b ∷ bs) h =
    let parts = and_parts (is_plain b) (list_all is_plain bs) h in
    let here = parts.0 in
    ap₂ (λ (x xs : List ℕ). x ++ xs) (escape_byte_plain b (λ e. grind (arith, nat_tests)) (λ e. grind (arith, nat_tests)) (grind (arith, nat_tests))) (escape_plain bs parts.1)

pub banned_glued : (at : ℕ) (index : List ℕ) (by : Handle) → IsTrue (list_all is_plain index) → blocked_glue (decimal at) index (codes "banned") (handle_text by) ≡ answer_text (banned at index by)
unfolding answer_text escape_byte
banned_glued at index by plain = ap (λ name. blocked_glue (decimal at) name (codes "banned") (handle_text by)) (sym (escape_plain index plain)) ∙ simp append_assoc

pub erased_glued : (at : ℕ) (index : List ℕ) (by : Handle) → IsTrue (list_all is_plain index) → blocked_glue (decimal at) index (codes "erased") (handle_text by) ≡ answer_text (erased at index by)
unfolding answer_text escape_byte
erased_glued at index by plain = ap (λ name. blocked_glue (decimal at) name (codes "erased") (handle_text by)) (sym (escape_plain index plain)) ∙ simp append_assoc

pub clash_glued : (at : ℕ) (index : List ℕ) (one other : Handle) → IsTrue (list_all is_plain index) → clash_glue (decimal at) index (handle_text one) (handle_text other) ≡ answer_text (clash at index one other)
unfolding answer_text escape_byte
clash_glued at index one other plain = ap (λ name. clash_glue (decimal at) name (handle_text one) (handle_text other)) (sym (escape_plain index plain)) ∙ simp append_assoc
