use Rattle.std.proofs.Common.{◌≡◌, ◌≢◌, ℕ, ◌<◌, ◌≤◌, ◌^◌, List, ◌++◌, length, Option, refl, subst, sym, ap, ◌∙◌, arith, length-append}
use Rattle.std.specs.Prelude.{IfSome, MatchOption}
use Rattle.table_folder.specs.StateFile.{first_line}
use Rattle.table_folder.specs.StateIn.{IsFramed}
use Rattle.table_folder.specs.declared.framing.Framed.{Framed}
use Rattle.table_folder.proofs.Digits16.{length-first_line}
use Rattle.table_folder.proofs.StateFiles.{framed_line}
use Rattle.table_folder.proofs.state_in.open_file.Goals as goal

-- all first lines of these types are as long
first_size : (types : List ℕ) (first : ℕ) (line : List ℕ) (e : ℕ) → first ≡ length line → line ≡ first_line types 0 → e < 2 ^ 64 → first ≡ length (first_line types e)
first_size types first line e size is small = size ∙ ap length is ∙ length-first_line types 0 (omega arith) ∙ sym (length-first_line types e small)

pub returns-in_default-clause-refused : goal.returns-in_default-clause-refused
returns-in_default-clause-refused g c digest inner small is =
    let types = c.args.types.now in
    let bytes_are = c.in-Ok.ensures.framed _ (ap g.L.LogFile.contents c.new-disk.ensures.file ∙ is) in
    let size = first_size types (length c.as_bytes.result.now) c.as_bytes.result.now digest refl (c.as_bytes.ensures.value ∙ c.in_ok-first_line.ensures) small in
    (subst (IsFramed (length c.as_bytes.result.now) _) c.in_default.is bytes_are) (first_line types digest ++ inner) (omega (arith, length-append (first_line types digest) inner)) refl

pub returns-in_default-2-clause-refused : goal.returns-in_default-2-clause-refused
returns-in_default-2-clause-refused g c digest inner small is =
    let types = c.args.types.now in
    let frame = subst (IsFramed (length c.as_bytes.result.now) _) c.in-Some.is (c.in-Ok.ensures.framed _ (ap g.L.LogFile.contents c.new-disk.ensures.file ∙ is)) in
    let size = first_size types (length c.as_bytes.result.now) c.as_bytes.result.now digest refl (c.as_bytes.ensures.value ∙ c.in_ok-first_line.ensures) small in
    let line = framed_line types _ digest (length c.as_bytes.result.now) inner c.in-Some.field-0 small size frame refl in
    let none = subst (λ (o : Option ℕ). MatchOption o ((e : ℕ) → e < 2 ^ 64 → c.as_slice.result.now ≢ first_line types e) (λ e. c.as_slice.result.now ≡ first_line types e)) c.in_default-2.is c.in_ok-digest.ensures in
    none digest small (c.as_slice.ensures.value ∙ line)

pub overflow_sub-result : goal.overflow_sub-result
overflow_sub-result g c = subst (λ (o : Option Framed). IfSome o (λ framed. (length c.as_bytes.result.now) ≤ framed.before)) c.in-Some.is c.in-Ok.ensures.room
