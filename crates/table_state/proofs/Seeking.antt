-- What is found where its text stands in front.
use Rattle.std.proofs.Common.{◌≡◌, ℕ, List, [], ◌∷◌, ◌++◌, Option, Some, Ok, Err, sym, ap, ◌∙◌, subst, append_assoc, append-nil}
use Rattle.std.specs.Prelude.{codes}
use Rattle.command_lines.specs.Fits.{CommandFits}
use Rattle.command_lines.specs.Meaning.{meaning}
use Rattle.std.proofs.lemmas.List.{append_cancel_right}
use Rattle.command_lines.specs.Parts.{Gives}
use Rattle.command_lines.specs.declared.fault.CommandFault.{CommandFault}
use Rattle.command_lines.specs.declared.fault.CommandFault.TheVariants as faults
use Rattle.command_text.specs.Line.{IsOneLine}
use Rattle.command_text.specs.Text.{command_text}
use Rattle.command_text.proofs.Law.{command_text_line, meaning-command_text}
use Rattle.table_cmd.specs.declared.command.Command.{Command}
use Rattle.table_state.specs.declared.source.Source.{Source}
use Rattle.table_state.specs.State.{line_of}
use Rattle.table_state.specs.Reading.{Takes, TakesByte, left_of}
use Rattle.table_state.proofs.Taking.{takes_both}
use Rattle.table_state.proofs.OneLine.{no_line, same_line, same_rest}

module _ (contents : Option (List ℕ)) (old new : Source) (text : List ℕ) (takes : Takes contents old text new) where
  -- what stands behind a text that was taken
  pub rest_is : (bytes rest : List ℕ) → contents ≡ Some bytes → left_of bytes old ≡ text ++ rest → left_of bytes new ≡ rest
  rest_is bytes rest known front = same_rest text rest (left_of bytes new) (sym front ∙ takes bytes known)

module _ (contents : Option (List ℕ)) (old new : Source) (read : List ℕ) (one : IsOneLine read) where
  -- the line that stands in front is the one that was taken
  pub found_line : Takes contents old (read ++ codes "\n") new → (line bytes rest : List ℕ) → contents ≡ Some bytes → IsOneLine line → left_of bytes old ≡ (line ++ codes "\n") ++ rest → read ≡ line
  found_line takes line bytes rest known is front =
      same_line read line (left_of bytes new) rest one is
      (sym (append_assoc read (codes "\n") (left_of bytes new)) ∙ sym (takes bytes known) ∙ front ∙ append_assoc line (codes "\n") rest)

  -- and there is none where the bytes end in it
  pub no_end : Takes contents old read new → (line bytes rest : List ℕ) → contents ≡ Some bytes → left_of bytes new ≡ [] → left_of bytes old ≡ (line ++ codes "\n") ++ rest → ⊥
  no_end takes line bytes rest known ends front =
      let all : read ≡ line ++ 10 ∷ rest =
      sym (append-nil read) ∙ ap (λ xs. read ++ xs) (sym ends) ∙ sym (takes bytes known) ∙ front ∙ append_assoc line (codes "\n") rest in
      no_line line rest (subst IsOneLine all one)

  -- the line of a command that stands in front
  pub found_text : Takes contents old (read ++ codes "\n") new → (command : Command) (bytes rest : List ℕ) → contents ≡ Some bytes → CommandFits command → left_of bytes old ≡ line_of command ++ rest → read ≡ command_text command
  unfolding line_of
  found_text takes command bytes rest known fits front = found_line takes (command_text command) bytes rest known (command_text_line command fits) front

-- a command's text and a newline are its line
pub line_is : (line : List ℕ) (command : Command) → line ≡ command_text command → line ++ codes "\n" ≡ line_of command
unfolding line_of
line_is line command is = ap (λ xs. xs ++ codes "\n") is

pub is_text : (line : List ℕ) (command : Command) → line ++ codes "\n" ≡ line_of command → line ≡ command_text command
unfolding line_of
is_text line command same = append_cancel_right line (command_text command) (codes "\n") same

-- a line that is a command's text means no other
pub means_it : (line : List ℕ) (command : Command) → CommandFits command → line ≡ command_text command → meaning line ≡ Ok command
means_it line command fits is = ap meaning is ∙ meaning-command_text command fits

pub same_command : (line : List ℕ) (command read : Command) → meaning line ≡ Ok command → meaning line ≡ Ok read → read ≡ command
same_command line command read one two = let e : Ok command ≡ Ok read = sym one ∙ two in cc

pub no_fault : (line : List ℕ) (command : Command) (why : CommandFault) → meaning line ≡ Ok command → meaning line ≡ Err why → ⊥
no_fault line command why one two = let e : Ok command ≡ Err why = sym one ∙ two in cc

pub no_json : (line : List ℕ) (command : Command) (why : CommandFault) → Gives {X = Command} (Err why) (meaning line) → why ≡ faults.Json → meaning line ≡ Ok command → ⊥
no_json line command why gives is means =
    let P : CommandFault → Type 0 = λ w. Gives {X = Command} (Err w) (meaning line) in
    no_fault line command faults.Json means (subst P is gives)

pub no_command : (line : List ℕ) (command : Command) (why : CommandFault) → Gives {X = Command} (Err why) (meaning line) → why ≡ faults.Command → meaning line ≡ Ok command → ⊥
no_command line command why gives is means =
    let P : CommandFault → Type 0 = λ w. Gives {X = Command} (Err w) (meaning line) in
    no_fault line command faults.Command means (subst P is gives)

-- a line ends at this newline
module _ (contents known : Option (List ℕ)) (old mid new : Source) (same : known ≡ contents) (takes : Takes contents old mid.line.items mid) (one : IsOneLine mid.line.items) where
  pub found_next : (byte : Option ℕ) (b : ℕ) → TakesByte known mid byte new → byte ≡ Some b → b ≡ 10 → new.line ≡ mid.line →
      (line bytes rest : List ℕ) → contents ≡ Some bytes → IsOneLine line → left_of bytes old ≡ (line ++ codes "\n") ++ rest → new.line.items ≡ line
  found_next byte b last is ten kept line bytes rest all is_line front =
      let P : Option ℕ → Type 0 = λ o. TakesByte known mid o new in
      let Q : Option (List ℕ) → Type 0 = λ c. Takes c mid (10 ∷ []) new in
      let step : Takes contents mid (10 ∷ []) new = subst Q same (subst P (is ∙ ap Some ten) last) in
      ap (λ l. l.items) kept
      ∙ found_line contents old new mid.line.items one (takes_both contents old mid new mid.line.items (10 ∷ []) takes step) line bytes rest all is_line front
