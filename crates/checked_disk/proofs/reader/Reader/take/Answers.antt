use Rattle.std.proofs.Common.{◌≡◌, ◌+◌, ◌++◌, ◌∷◌, [], ℕ, List, length, refl, ap, subst, sym, ◌∙◌, append_assoc, arith, length-append}
use Rattle.checked_log.specs.Recover.{walked}
use Rattle.checked_log.specs.Whole.{ended}
use Rattle.checked_log.specs.Cuts.{Lacks}
use Rattle.checked_log.specs.declared.recovery.Link.{Link}
use Rattle.checked_log.specs.declared.walk.Walk.{Walk}
use Rattle.checked_log.proofs.Lacking.{Lacks-append, Lacks-none}
use Rattle.std.specs.Prelude.{Option}
use Rattle.checked_disk.specs.Plain.{found_from}
use Rattle.checked_disk.specs.Reading.{EndsAt, EndsLine, Takes}
use Rattle.checked_disk.specs.declared.reader.Reader.{Reader}
use Rattle.checked_disk.proofs.Pieces.{line_ended}
use Rattle.checked_disk.proofs.reader.Reader.take.Goals as goal

-- a line that was ended, between two pieces that are still to be taken
one_more : (old cur mid new : Reader) (piece left front rest : List ℕ) → Takes old piece left cur → Lacks 10 front → left ≡ front ++ (10 ∷ rest)
    → mid.mark ≡ cur.mark → mid.tail ≡ cur.tail → mid.walk ≡ cur.walk → mid.plain.items ≡ cur.plain.items → mid.durable ≡ cur.durable → mid.line.items ≡ cur.line.items ++ front
    → mid.place ≡ cur.place + (length front + 1) → EndsLine mid new → Takes old piece rest new
one_more old cur mid new piece left front rest takes lacks cut mark tail walk plain durable line place ends =
    let sound = takes.sound in
    let lines : (r : List ℕ) → ended (cur.line.items ++ (left ++ r)) ≡ mid.line.items ∷ ended (new.line.items ++ (rest ++ r)) = λ r.
    line_ended cur.line.items front rest left r sound.lacks lacks cut
    ∙ ap (λ (l : List ℕ). l ∷ ended (rest ++ r)) (sym line) ∙ ap (λ (l : List ℕ). mid.line.items ∷ ended (l ++ (rest ++ r))) (sym ends.line) in
    let none = ap length ends.line in
    let long = ap length cut in
    let parts = length-append front (10 ∷ rest) in
    let room = ends.room in
    let here = ends.place in
    let before = takes.place in
    record {
      sound = record { lacks = subst (Lacks 10) (sym ends.line) (Lacks-none 10); room = omega arith };
      made = takes.made ++ ends.made;
      plain =
          ends.plain ∙ ap (λ (l : List ℕ). l ++ ends.made) plain ∙ ap (λ (l : List ℕ). l ++ ends.made) takes.plain
          ∙ append_assoc old.plain.items takes.made ends.made;
      mark = ends.mark ∙ mark ∙ takes.mark;
      durable = ends.durable ∙ durable ∙ takes.durable;
      place = omega arith;
      walk = λ r.
          takes.walk r ∙ ap (walked old.mark cur.walk) (lines r)
          ∙ ap (λ (w : Walk). walked old.mark w (mid.line.items ∷ ended (new.line.items ++ (rest ++ r)))) (sym walk)
          ∙ subst (λ (m : Option Link). walked m mid.walk (mid.line.items ∷ ended (new.line.items ++ (rest ++ r))) ≡ walked m new.walk (ended (new.line.items ++ (rest ++ r))))
          (mark ∙ takes.mark) (ends.walk (ended (new.line.items ++ (rest ++ r))));
      texts = λ r.
          takes.texts r ∙ ap (λ (ls : List (List ℕ)). takes.made ++ found_from cur.walk ls) (lines r)
          ∙ ap (λ (w : Walk). takes.made ++ found_from w (mid.line.items ∷ ended (new.line.items ++ (rest ++ r)))) (sym walk)
          ∙ ap (λ (l : List ℕ). takes.made ++ l) (ends.texts (ended (new.line.items ++ (rest ++ r))))
          ∙ sym (append_assoc takes.made ends.made (found_from new.walk (ended (new.line.items ++ (rest ++ r)))));
      grows = omega (arith, takes.grows, ends.grows);
      tail = λ r end at.
          let before = takes.tail r end at in
          let here : EndsAt mid.durable mid.walk (mid.line.items ∷ ended (new.line.items ++ (rest ++ r))) end =
          subst (λ (d : ℕ). EndsAt d mid.walk (mid.line.items ∷ ended (new.line.items ++ (rest ++ r))) end) (sym (durable ∙ takes.durable))
          (subst (λ (w : Walk). EndsAt old.durable w (mid.line.items ∷ ended (new.line.items ++ (rest ++ r))) end) (sym walk)
          (subst (λ (ls : List (List ℕ)). EndsAt old.durable cur.walk ls end) (lines r) before.0)) in
          let more = ends.tail (ended (new.line.items ++ (rest ++ r))) end here in (
            subst (λ (d : ℕ). EndsAt d new.walk (ended (new.line.items ++ (rest ++ r))) end) (durable ∙ takes.durable) more.0,
            λ le. more.1 (omega (arith, tail, before.1 le)),
          );
    }

pub loop-front-preserved : goal.loop-front-preserved
loop-front-preserved c =
    one_more c.args.self.now c.loop-front.self _ c.end_line.new.self c.args.piece.now c.loop-front.left.now c.in-Some.front.now c.in-Some.rest.now
    c.loop-front.invariant c.in-Some.ensures.0 c.in-Some.ensures.1 refl refl refl refl refl c.in_ok-extend_from_slice.ensures.items refl c.in_ok-end_line.ensures.ends

-- what stands behind the last newline
behind : (old cur new : Reader) (piece left : List ℕ) → Takes old piece left cur → Lacks 10 left → new.mark ≡ cur.mark → new.tail ≡ cur.tail → new.walk ≡ cur.walk
    → new.plain.items ≡ cur.plain.items → new.durable ≡ cur.durable → new.line.items ≡ cur.line.items ++ left → new.place ≡ cur.place + length left → Takes old piece [] new
behind old cur new piece left takes lacks mark tail walk plain durable line place =
    let text : (r : List ℕ) → cur.line.items ++ (left ++ r) ≡ new.line.items ++ ([] ++ r) = λ r.
    sym (append_assoc cur.line.items left r) ∙ ap (λ (l : List ℕ). l ++ r) (sym line) in
    record {
      sound = record {
        lacks = subst (Lacks 10) (sym line) (Lacks-append 10 cur.line.items left takes.sound.lacks lacks);
        room = omega (arith, takes.sound.room, ap length line, length-append cur.line.items left, ap (λ (w : Walk). w.so_far.end) walk, ap (λ (w : Walk). w.so_far.behind.lines) walk);
      };
      made = takes.made;
      plain = plain ∙ takes.plain;
      mark = mark ∙ takes.mark;
      durable = durable ∙ takes.durable;
      place = omega (arith, takes.place);
      walk = λ r.
          takes.walk r ∙ ap (λ (l : List ℕ). walked old.mark cur.walk (ended l)) (text r) ∙ ap (λ (w : Walk). walked old.mark w (ended (new.line.items ++ ([] ++ r)))) (sym walk);
      texts = λ r.
          takes.texts r ∙ ap (λ (l : List ℕ). takes.made ++ found_from cur.walk (ended l)) (text r)
          ∙ ap (λ (w : Walk). takes.made ++ found_from w (ended (new.line.items ++ ([] ++ r)))) (sym walk);
      grows = omega (arith, takes.grows, tail);
      tail = λ r end at.
          let before = takes.tail r end at in (
            subst (λ (w : Walk). EndsAt old.durable w (ended (new.line.items ++ ([] ++ r))) end) (sym walk)
                (subst (λ (l : List ℕ). EndsAt old.durable cur.walk (ended l) end) (text r) before.0),
            λ le. omega (arith, tail, before.1 le),
          );
    }

pub returns-clause-takes : goal.returns-clause-takes
returns-clause-takes c =
    behind c.args.self.now c.loop-front.self _ c.args.piece.now c.loop-front.left.now c.loop-front.invariant c.in_default.ensures refl refl refl refl refl c.in_ok-extend_from_slice-2.ensures.items
    refl
