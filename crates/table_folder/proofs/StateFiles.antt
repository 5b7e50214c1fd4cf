-- A state's file has one state.
use Rattle.std.proofs.Common.{◌≡◌, ℕ, ◌+◌, ◌-◌, ◌<◌, ◌≤◌, ◌^◌, List, ◌++◌, codes, drop, length, take, Option, Some, refl, sym, ap, append_assoc, ◌∙◌, arith, length-drop, length-take}
use Rattle.std.proofs.Math.Seq.{take-add, take-append_seam}
use Rattle.checked_log.proofs.Cuts.{same_parts}
use Rattle.checked_log.specs.Digest.{digest}
use Rattle.table_folder.specs.Found.{Beginning}
use Rattle.table_folder.specs.StateFile.{first_line, hex16, last_line, signed}
use Rattle.table_folder.specs.StateIn.{IsFileOf, IsFrame, beginning_of, part}
use Rattle.table_folder.specs.Base.{at_state}
use Rattle.table_folder.specs.declared.base.Base.{Base}
use Rattle.table_schema.specs.Shape.{TableShape}
use Rattle.table_terms.specs.Table.{TableState}
use Rattle.table_folder.specs.declared.framing.Framed.{Framed}
use Rattle.table_folder.proofs.Digits16.{hex16-injective, length-first_line, same_digits}
use Rattle.table_folder.proofs.Signing.{signed_length}

-- a file has one front that is signed
same_front : (a b : List ℕ) → signed a ≡ signed b → a ≡ b
same_front a b is =
    let size : length a ≡ length b = omega (arith, signed_length (signed a) a refl, signed_length (signed a) b is) in
    (same_parts a b (last_line (digest a)) (last_line (digest b)) size is).0

first_line_is : (types : List ℕ) (d : ℕ) → first_line types d ≡ types ++ (codes ",\"e\":\"" ++ (hex16 d ++ codes "\"}\n"))
unfolding first_line
first_line_is types d = refl

same_line : (types : List ℕ) (d e : ℕ) → d < 2 ^ 64 → e < 2 ^ 64 → first_line types d ≡ first_line types e → d ≡ e
same_line types d e small fits is = hex16-injective d e small fits (same_digits (first_line types d) types (hex16 d) e (first_line_is types d) is)

-- one digest, and one text
pub same_state : (types bytes : List ℕ) (d e : ℕ) (x y : List ℕ) → d < 2 ^ 64 → e < 2 ^ 64 → IsFileOf types bytes d x → IsFileOf types bytes e y → (d ≡ e) × (x ≡ y)
same_state types bytes d e x y small fits one other =
    let fronts : first_line types d ++ x ≡ first_line types e ++ y = same_front (first_line types d ++ x) (first_line types e ++ y) (sym one ∙ other) in
    let size : length (first_line types d) ≡ length (first_line types e) = length-first_line types d small ∙ sym (length-first_line types e fits) in
    let parts = same_parts (first_line types d) (first_line types e) x y size fronts in
    (same_line types d e small fits parts.0, parts.1)

-- a frame whose first line is that of a state
pub framed_file : (types bytes : List ℕ) (digest first : ℕ) (framed : Framed) → first ≡ length (first_line types digest) → IsFrame first bytes framed → framed.line.items ≡ first_line types digest
    → IsFileOf types bytes digest (part first framed.before bytes) × (framed.before - first ≡ length (part first framed.before bytes))
framed_file types bytes d first framed size frame line =
    let split : take framed.before bytes ≡ first_line types d ++ part first framed.before bytes = front_split first framed.before bytes frame.room ∙ ap (λ (l : List ℕ). l ++ part first framed.before bytes) (sym frame.line ∙ line) in (
      frame.ends ∙ ap signed split,
      sym (length-take (framed.before - first) (drop first bytes) ∙ omega (arith, length-drop first bytes, frame.room, frame.within)),
    )
  where
    front_split : (first before : ℕ) (bytes : List ℕ) → first ≤ before → take before bytes ≡ take first bytes ++ part first before bytes
    front_split first before bytes room =
        let sum : first + (before - first) ≡ before = omega arith in
        ap (λ (n : ℕ). take n bytes) (sym sum) ∙ take-add first (before - first) bytes

-- a framed file of a state has its first line in front
pub framed_line : (types bytes : List ℕ) (e first : ℕ) (inner : List ℕ) (framed : Framed) → e < 2 ^ 64 → first ≡ length (first_line types e) → IsFrame first bytes framed → IsFileOf types bytes e inner
    → framed.line.items ≡ first_line types e
framed_line types bytes e first inner framed small size frame is =
    frame.line ∙ ap (take first) (is ∙ append_assoc (first_line types e) inner (last_line (digest (first_line types e ++ inner))))
    ∙ ap (λ (n : ℕ). take n (first_line types e ++ (inner ++ last_line (digest (first_line types e ++ inner))))) size
    ∙ take-append_seam (first_line types e) (inner ++ last_line (digest (first_line types e ++ inner)))

-- what a state's file begins with, once it is read
pub same_beginning : (b : Beginning) (base : Base) (declared : ℕ) (t : TableState) (shape : TableShape) → base ≡ at_state declared b.link → t ≡ b.table → b.state ≡ Some b.link.number → beginning_of shape base (Some t) ≡ b
same_beginning b base declared t shape is_base is_table state =
    ap (λ (x : Base). beginning_of shape x (Some t)) is_base ∙ ap (λ (x : TableState). beginning_of shape (at_state declared b.link) (Some x)) is_table
    ∙ ap (λ (s : Option ℕ). the b s) (sym state)
  where
    the : Beginning → Option ℕ → Beginning
    the b s = record { table = b.table; link = b.link; state = s }
