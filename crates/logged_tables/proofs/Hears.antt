-- A stream that is told as its lines are.
use Rattle.std.proofs.Common.{◌≡◌, inl, inr, ℕ, List, [], ◌∷◌, ◌++◌, sym, ap, subst, ◌∙◌, append-nil}
use Rattle.std.specs.List.{All}
use Rattle.std.proofs.lemmas.Bool.{eq-eqb}
use Rattle.std.proofs.lemmas.List.Splits.{slice_split_at}
use Rattle.table_engine.specs.Lines.{short}
use Rattle.table_engine.specs.Stream.{Breaks, EndsLine, Meets, RefusesLine, Starts, TellsAll}
use Rattle.table_engine.specs.Whole.{lines_of}
use Rattle.table_engine.proofs.Whole.{IsWithin, all_told, front_told, last_line, newline}
use Rattle.logged_tables.specs.Hears.{HearsEnded, HearsFront, HearsLines, RefusesTold, StopsNext, TellsText}
use Rattle.logged_tables.specs.declared.fault.OverAt.{OverAt}

-- the line that was begun stands as a whole behind those before it, where a newline or the end comes next
line_next : (bytes begun back : List ℕ) (ended : List (List ℕ)) → All IsWithin begun → EndsLine back → ((back : List ℕ) → lines_of (bytes ++ back) ≡ ended ++ lines_of (begun ++ back))
    → (later : List (List ℕ)) × (lines_of (bytes ++ back) ≡ ended ++ begun ∷ later)
line_next bytes begun [] ended within here behind = ([], ap lines_of (append-nil bytes) ∙ last_line bytes begun ended within behind)
line_next bytes begun (c ∷ back) ended within is behind =
    (lines_of back, behind (c ∷ back) ∙ ap (λ ls. ended ++ ls) (slice_split_at newline begun c back within (eq-eqb c 10 is)))

module _ (names : List (List ℕ)) (bytes text : List ℕ) where
  pub heard_all : TellsAll (TellsText names) tt (short []) bytes text tt → HearsLines names (lines_of bytes) text
  heard_all h = all_told (TellsText names) tt tt bytes text h

  pub heard_ended : Starts (TellsText names) tt (short []) bytes text tt → HearsEnded names bytes text
  heard_ended h =
      let k = front_told (TellsText names) tt tt bytes text h.0 h.1 in
      record { ended = k.0; begun = k.1; lines = last_line bytes k.1 k.0 k.3 k.5; heard = k.4 }

  pub heard_front : Breaks (TellsText names) tt (short []) bytes text tt → HearsFront names bytes text
  heard_front (inl h) =
      let k = front_told (TellsText names) tt tt h.front text h.fed.0 h.fed.1 in
      record { front = k.0; later = lines_of (k.1 ++ h.back); lines = ap lines_of (sym h.parts) ∙ k.5 h.back; heard = k.4 }
  heard_front (inr h) = record { front = lines_of bytes; later = []; lines = sym (append-nil (lines_of bytes)); heard = heard_all h }

  pub heard_stop : (at : OverAt) → Meets (TellsText names) (RefusesTold names) tt (short []) bytes text tt at → StopsNext names bytes text at
  heard_stop at h =
      let k = front_told (TellsText names) tt tt h.front text h.next h.fed in
      let next = line_next h.front k.1 h.back k.0 k.3 h.ends k.5 in
      record {
        front = k.0;
        line = k.1;
        later = next.0;
        lines = ap lines_of (sym h.parts) ∙ next.1;
        heard = k.4;
        refused = subst (λ l. RefusesLine (RefusesTold names) tt l at) k.2 h.refused;
      }
