-- Orders that are read one after another, where those of all indices stand in front.
use Rattle.std.proofs.Common.{◌≡◌, ℕ, zero, suc, ◌+◌, ◌<◌, List, [], ◌∷◌, ◌++◌, length, map, get_or, take, drop, Option, Some, refl, sym, ap, ap₂, ◌∙◌, append_assoc, arith, zero-add}
use Rattle.std.specs.List.{range_with_len}
use Rattle.std.proofs.lemmas.List.{drop_more, take-append-drop}
use Rattle.std.proofs.lemmas.List.FromFn.{get_or-map-range_with_len, length-map-range_with_len, take-map-range_with_len}
use Rattle.container_model.specs.declared.handle.Handle.{Handle}
use Rattle.container_model.specs.State.{list_at}
use Rattle.table_cmd.specs.declared.command.Command.{Command}
use Rattle.table_schema.specs.Shape.{TableShape}
use Rattle.table_state.specs.declared.source.Source.{Source}
use Rattle.table_state.specs.Reading.{Takes, left_of}
use Rattle.table_state.specs.State.{line_of, lines_text, order_at, order_commands}
use Rattle.table_state.proofs.Lines.{lines_both}
use Rattle.table_state.proofs.Orders.{map_same}
use Rattle.table_state.proofs.Seeking.{rest_is}

-- the lines of commands, around one
around : (commands : List Command) (k : ℕ) (d : Command) → k < length commands → lines_text commands ≡ lines_text (take k commands) ++ (line_of (get_or commands k d) ++ lines_text (drop (k + 1) commands))
around commands k d lt =
    ap lines_text (sym (take-append-drop k commands) ∙ ap (λ ys. take k commands ++ ys) (drop_more commands k d lt))
    ∙ lines_both (take k commands) (get_or commands k d ∷ drop (k + 1) commands)

at_taken : (lists : List (List Handle)) (k j : ℕ) → j < k → list_at (take k lists) j ≡ list_at lists j
at_taken [] zero j lt = absurd (omega (arith, lt))
at_taken [] (suc k) j lt = refl
at_taken (l ∷ ls) zero j lt = absurd (omega (arith, lt))
at_taken (l ∷ ls) (suc k) zero lt = refl
at_taken (l ∷ ls) (suc k) (suc j) lt = at_taken ls k j (omega (arith, lt))

module _ (shape : TableShape) (contents : Option (List ℕ)) (first source : Source) (done xs : List (List Handle)) (k : ℕ)
    (takes : Takes contents first (lines_text (map (order_at shape done) (range_with_len 0 k))) source) (so : done ≡ take k xs) (lt : k < length shape.indices) where
  same_front : map (order_at shape done) (range_with_len 0 k) ≡ take k (order_commands shape xs)
  same_front =
      map_same (order_at shape done) (order_at shape xs) 0 k (λ j below. let same : list_at done j ≡ list_at xs j = ap (λ ls. list_at ls j) so ∙ at_taken xs k j (omega (arith, below)) in cc)
      ∙ sym (take-map-range_with_len (order_at shape xs) 0 (length shape.indices) k (omega (arith, lt)))

  -- the line of the next order stands in front
  pub order_front : (bytes rest : List ℕ) → contents ≡ Some bytes → left_of bytes first ≡ lines_text (order_commands shape xs) ++ rest →
      left_of bytes source ≡ line_of (order_at shape xs k) ++ (lines_text (drop (k + 1) (order_commands shape xs)) ++ rest)
  order_front bytes rest known front =
      let all = order_commands shape xs in
      let d = order_at shape xs k in
      let later = lines_text (drop (k + 1) all) in
      let before = lines_text (map (order_at shape done) (range_with_len 0 k)) in
      let within : k < length all = omega (arith, lt, length-map-range_with_len (order_at shape xs) 0 (length shape.indices)) in
      let here : get_or all k d ≡ d = get_or-map-range_with_len (order_at shape xs) 0 (length shape.indices) k k d lt (zero-add k) in
      let whole : left_of bytes first ≡ before ++ (line_of d ++ (later ++ rest)) =
      front ∙ ap (λ ys. ys ++ rest) (around all k d within ∙ ap₂ (λ ys c. ys ++ (line_of c ++ later)) (ap lines_text (sym same_front)) here)
      ∙ append_assoc before (line_of d ++ later) rest ∙ ap (λ ys. before ++ ys) (append_assoc (line_of d) later rest) in
      rest_is contents first source before takes bytes (line_of d ++ (later ++ rest)) known whole
