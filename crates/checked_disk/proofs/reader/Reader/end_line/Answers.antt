use Rattle.std.proofs.Common.{◌≡◌, ◌≤◌, subst, List, ℕ, [], ◌∷◌, ◌++◌, None, Some, refl, ap, sym, ◌∙◌, append-nil, append_assoc, arith}
use Rattle.checked_log.specs.Line.{Entry}
use Rattle.checked_log.specs.Read.{said}
use Rattle.checked_log.specs.Recover.{walked, whole_entry, with_line}
use Rattle.checked_log.specs.declared.walk.Walk.{Walk}
use Rattle.checked_log.proofs.Walked.{line_room}
use Rattle.checked_disk.specs.Plain.{found_from}
use Rattle.checked_disk.specs.Reading.{EndsAt}
use Rattle.checked_disk.proofs.Ends.{ends_none, ends_some, ends_within}
use Rattle.checked_disk.proofs.Founds.{found_none, found_some}
use Rattle.checked_disk.proofs.reader.Reader.end_line.Goals as goal

pub returns-in_default-clause-ends : goal.returns-in_default-clause-ends
returns-in_default-clause-ends c =
    let mark = c.args.self.now.mark in
    let w = c.args.self.now.walk in
    let line = c.args.self.now.line.items in
    let walk : c.take.new.self ≡ with_line mark w line = c.take.ensures.walk ∙ ap (with_line mark w) c.deref.ensures.value in
    let none : whole_entry w line ≡ None = ap (whole_entry w) (sym c.deref.ensures.value) ∙ sym c.in_default.ensures.whole in
    let room = line_room mark w line in
    let before = c.requires in
    record {
      made = [];
      plain = sym (append-nil c.args.self.now.plain.items);
      mark = refl;
      durable = refl;
      place = refl;
      line = c.clear.ensures.items;
      room = rw walk (omega arith);
      walk = λ lines. ap (λ (v : Walk). walked mark v lines) (sym walk);
      texts = λ lines. found_none mark w line lines none ∙ ap (λ (v : Walk). found_from v lines) (sym walk);
      grows = omega arith;
      tail = λ lines end at. (subst (λ (v : Walk). EndsAt c.args.self.now.durable v lines end) (sym walk) (ends_none mark w line none c.args.self.now.durable lines end), λ le. le);
    }

pub returns-clause-ends : goal.returns-clause-ends
returns-clause-ends c =
    let mark = c.args.self.now.mark in
    let w = c.args.self.now.walk in
    let line = c.args.self.now.line.items in
    let e : Entry = said c.in-Some.said in
    let made : List ℕ = e.write ++ (10 ∷ []) in
    let walk : c.take.new.self ≡ with_line mark w line = c.take.ensures.walk ∙ ap (with_line mark w) c.deref.ensures.value in
    let some : whole_entry w line ≡ Some e = ap (whole_entry w) (sym c.deref.ensures.value) ∙ sym c.in-Some.ensures.whole in
    let room = line_room mark w line in
    let before = c.requires in
    record {
      made = made;
      plain =
          c.in_ok-push.ensures.items ∙ ap (λ (l : List ℕ). l ++ (10 ∷ [])) c.in_ok-extend_from_slice.ensures.items
          ∙ append_assoc c.args.self.now.plain.items e.write (10 ∷ []);
      mark = refl;
      durable = refl;
      place = refl;
      line = c.clear-2.ensures.items;
      room = rw walk (omega arith);
      walk = λ lines. ap (λ (v : Walk). walked mark v lines) (sym walk);
      texts = λ lines. found_some mark w line lines e some ∙ ap (λ (v : Walk). made ++ found_from v lines) (sym walk);
      grows = c.tail_behind-self.ensures.grows;
      tail = λ lines end at. (
        subst (λ (v : Walk). EndsAt c.args.self.now.durable v lines end) (sym walk) (ends_some mark w line e some c.args.self.now.durable lines end at),
        c.tail_behind-self.ensures.within end
            (λ few. omega (arith, subst (λ (v : Walk). v.so_far.end ≤ end) (sym walk) (ends_within mark w line e some c.args.self.now.durable lines end at few))),
      );
    }
