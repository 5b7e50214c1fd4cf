use Rattle.std.proofs.Common.{◌≡◌, ℕ, ◌+◌, List, ◌∷◌, ◌++◌, length, Option, refl, sym, ap, ◌∙◌, arith, length-append}
use Rattle.checked_log.specs.Recover.{walked, with_line}
use Rattle.checked_log.specs.Whole.{ended}
use Rattle.checked_log.specs.declared.walk.Walk.{Walk}
use Rattle.checked_log.specs.declared.recovery.Link.{Link}
use Rattle.checked_log.proofs.Ended.{ended_cut, ended_none}
use Rattle.checked_log.proofs.Walked.{judged_whole, line_room}
use Rattle.checked_log.proofs.recovery.recover.Goals as goal

-- what a line and its newline leave
cut_length : (left line rest : List ℕ) → left ≡ line ++ (10 ∷ rest) → length left ≡ length line + (length rest + 1)
cut_length left line rest e = ap length e ∙ (omega (arith, length-append line (10 ∷ rest)))

pub loop-line-init : goal.loop-line-init
loop-line-init c = let e = c.new-walk.ensures in record { same = rw e refl; count = refl; room = rw e (omega arith) }

pub take-requires : goal.take-requires
take-requires c =
    let room = c.loop-line.invariant.room in
    let count = c.loop-line.invariant.count in
    let cut = cut_length c.loop-line.left.now c.in-Some.line.now c.in-Some.rest.now c.in-Some.ensures.1 in omega arith

more : (mark : Option Link) (w v : Walk) (left line rest : List ℕ) (r : Walk) → ended left ≡ line ∷ ended rest → v ≡ with_line mark w line → walked mark w (ended left) ≡ r
    → walked mark v (ended rest) ≡ r
more mark w v left line rest r lines is so_far = ap (λ (x : Walk). walked mark x (ended rest)) is ∙ sym (ap (walked mark w) lines) ∙ so_far

pub loop-line-preserved : goal.loop-line-preserved
loop-line-preserved c =
    let cut = c.in-Some.ensures in
    let lines = ap ended cut.1 ∙ ended_cut c.in-Some.line.now c.in-Some.rest.now cut.0 in
    let room = c.loop-line.invariant.room in
    let long = cut_length c.loop-line.left.now c.in-Some.line.now c.in-Some.rest.now cut.1 in
    record {
      same = more c.args.mark c.loop-line.walk c.take.new.self c.loop-line.left.now c.in-Some.line.now c.in-Some.rest.now _ lines c.take.ensures.walk c.loop-line.invariant.same;
      count = c.loop-line.invariant.count;
      room = let added = line_room c.args.mark c.loop-line.walk c.in-Some.line.now in rw c.take.ensures.walk (omega arith);
    }

pub returns : goal.returns
returns c =
    let none = ended_none c.loop-line.left.now c.in_default.ensures in
    c.judge.ensures
    ∙ judged_whole c.args.base c.args.mark c.args.bytes.now c.loop-line.walk (sym (ap (walked c.args.mark c.loop-line.walk) none) ∙ c.loop-line.invariant.same)
