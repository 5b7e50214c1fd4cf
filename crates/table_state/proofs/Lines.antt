-- The lines of commands, one after another.
use Rattle.std.proofs.Common.{◌≡◌, ℕ, ◌+◌, ◌<◌, List, [], ◌∷◌, ◌++◌, length, map, take, drop, get_or, sym, ap, ◌∙◌, append-nil}
use Rattle.std.proofs.lemmas.List.{take_more, drop_more, take-append-drop, map-append}
use Rattle.std.proofs.lemmas.Grind.{flat_map-append}
use Rattle.table_cmd.specs.declared.command.Command.{Command}
use Rattle.table_state.specs.State.{line_of, lines_text}

pub lines_both : (front back : List Command) → lines_text (front ++ back) ≡ lines_text front ++ lines_text back
lines_both = flat_map-append line_of

pub lines_one : (command : Command) → lines_text (command ∷ []) ≡ line_of command
lines_one command = append-nil (line_of command)

module _ {X : Type 0} (f : X → Command) (xs : List X) (k : ℕ) (d : X) (lt : k < length xs) where
  -- the lines of one item more
  pub lines_more : lines_text (map f (take (k + 1) xs)) ≡ lines_text (map f (take k xs)) ++ line_of (f (get_or xs k d))
  lines_more =
      ap (λ ys. lines_text (map f ys)) (take_more xs k d lt)
      ∙ ap lines_text (map-append f (take k xs) (get_or xs k d ∷ []))
      ∙ lines_both (map f (take k xs)) (f (get_or xs k d) ∷ [])
      ∙ ap (λ ys. lines_text (map f (take k xs)) ++ ys) (lines_one (f (get_or xs k d)))

  -- the lines of all items, around one
  pub lines_around : lines_text (map f xs) ≡ lines_text (map f (take k xs)) ++ (line_of (f (get_or xs k d)) ++ lines_text (map f (drop (k + 1) xs)))
  lines_around =
      ap (λ ys. lines_text (map f ys)) (sym (take-append-drop k xs) ∙ ap (λ ys. take k xs ++ ys) (drop_more xs k d lt))
      ∙ ap lines_text (map-append f (take k xs) (get_or xs k d ∷ drop (k + 1) xs))
      ∙ lines_both (map f (take k xs)) (f (get_or xs k d) ∷ map f (drop (k + 1) xs))

-- the lines of one item more at the end
pub lines_push : {X : Type 0} (f : X → Command) (xs : List X) (x : X) → lines_text (map f (xs ++ x ∷ [])) ≡ lines_text (map f xs) ++ line_of (f x)
lines_push f xs x =
    ap lines_text (map-append f xs (x ∷ []))
    ∙ lines_both (map f xs) (f x ∷ [])
    ∙ ap (λ ys. lines_text (map f xs) ++ ys) (lines_one (f x))
