use Rattle.std.proofs.Common.{◌≡◌, ◌+◌, ◌-◌, [], ◌∷◌, ◌++◌, length, take, drop, get_or, IsTrue, refl, sym, ap, subst, ◌∙◌, append_assoc, append-nil, length-append, arith}
use Rattle.std.proofs.lemmas.List.{get_or-append-add, take_at}
use Rattle.table_engine.specs.Lines.{added, has_answer}
use Rattle.table_engine.specs.Stream.{Feeds}
use Rattle.table_engine.specs.Tables.{AnswersText}
use Rattle.table_engine.proofs.Feeds.{feeds_line, feeds_quiet, feeds_same, feeds_then}
use Rattle.table_engine.proofs.Quiet.{IsQuiet, is_newline, line_of_rest, quiet_front, quiet_whole}
use Rattle.table_engine.proofs.session.take_piece.Goals as goal

pub loop-length-init : goal.loop-length-init
loop-length-init c = record {
  kept = omega arith;
  first = λ e. refl;
  done = [];
  split = refl;
  text = [];
  fed = (refl, refl, refl);
  bytes = sym (append-nil c.args.out.now.bytes);
}

pub loop-length-preserved : goal.loop-length-preserved
loop-length-preserved c =
    let loop = c.loop-length in
    let inv = loop.invariant in
    let n = c.in-Some.length in
    let rest = loop.rest.now in
    let line = c.split_at.result.0.now in
    let behind = c.split_at-in-Some.result.1.now in
    let found = c.in-Some.ensures in
    let new = c.take_line.new in
    let ok = c.in-Ok.ensures.ok in
    let ended = line ++ 10 ∷ [] in
    let quiet : IsQuiet line = subst IsQuiet (sym c.split_at.ensures.front) (quiet_front rest n found) in
    let whole : line ++ 10 ∷ behind ≡ rest = ap (λ xs. xs ++ 10 ∷ behind) c.split_at.ensures.front
    ∙ line_of_rest n rest behind found.0.high (is_newline rest n found) (c.split_at-in-Some.ensures.back ∙ ap (drop 1) c.split_at.ensures.back) in
    let split : (inv.done ++ ended) ++ behind ≡ c.args.piece.now = append_assoc inv.done ended behind ∙ (ap (λ xs. inv.done ++ xs) (append_assoc line (10 ∷ []) behind ∙ whole) ∙ inv.split) in
    let size : length c.args.piece.now ≡ length (inv.done ++ ended) + length behind = ap length (sym split) ∙ length-append (inv.done ++ ended) behind in
    let more = length-append inv.done ended in
    let one = length-append line (10 ∷ []) in
    record {
      kept = let k = inv.kept in let m = c.take_line.ensures.kept in omega arith;
      first = λ e. absurd (omega (arith, e, size, more, one));
      done = inv.done ++ ended;
      split = split;
      text = inv.text ++ ok.0;
      fed = feeds_then AnswersText c.args.tables.now loop.tables new.tables c.args.cutter.now.unfinished loop.cutter.unfinished new.cutter.unfinished inv.done ended inv.text ok.0 inv.fed
          (feeds_line AnswersText loop.tables new.tables loop.cutter.unfinished new.cutter.unfinished line ok.0 quiet ok.2 ok.3);
      bytes = ok.1 ∙ (ap (λ xs. xs ++ ok.0) inv.bytes ∙ append_assoc c.args.out.now.bytes inv.text ok.0);
    }

pub returns-in-Err-clause-fed : goal.returns-in-Err-clause-fed
returns-in-Err-clause-fed c =
    let loop = c.loop-length in
    let inv = loop.invariant in
    let n = c.in-Some.length in
    let rest = loop.rest.now in
    let piece = c.args.piece.now in
    let line = c.split_at.result.0.now in
    let behind = drop 1 (drop n rest) in
    let found = c.in-Some.ensures in
    let err = c.in-Err.ensures.err in
    let new = c.take_line.new in
    let start = c.args.tables.now in
    let before = c.args.cutter.now.unfinished in
    let quiet : IsQuiet line = subst IsQuiet (sym c.split_at.ensures.front) (quiet_front rest n found) in
    let whole : line ++ 10 ∷ behind ≡ rest = ap (λ xs. xs ++ 10 ∷ behind) c.split_at.ensures.front ∙ line_of_rest n rest behind found.0.high (is_newline rest n found) refl in
    let split : (inv.done ++ line) ++ 10 ∷ behind ≡ piece = append_assoc inv.done line (10 ∷ behind) ∙ (ap (λ xs. inv.done ++ xs) whole ∙ inv.split) in
    let all : length piece ≡ length inv.done + length rest = ap length (sym inv.split) ∙ length-append inv.done rest in
    let size : length (inv.done ++ line) ≡ length piece - length rest + n =
    let front = c.split_at.ensures.front_len in
    let both = length-append inv.done line in
    omega arith in
    let taken : take (length piece - length rest + n) piece ≡ inv.done ++ line = ap (take (length piece - length rest + n)) (sym split) ∙ take_at (inv.done ++ line) (10 ∷ behind) (length piece - length rest + n) size in
    let fed = feeds_same AnswersText start loop.tables before (added line loop.cutter.unfinished) (inv.done ++ line) (inv.text ++ []) inv.text new.tables new.cutter.unfinished (append-nil inv.text) (sym err.0) (sym err.1)
    (feeds_then AnswersText start loop.tables loop.tables before loop.cutter.unfinished (added line loop.cutter.unfinished) inv.done line inv.text [] inv.fed (feeds_quiet AnswersText loop.tables loop.cutter.unfinished line quiet)) in
    (inv.text, subst (λ bs. Feeds AnswersText start before bs inv.text new.tables new.cutter.unfinished) (sym taken) fed, ap (λ b. b.bytes) err.2 ∙ inv.bytes)

pub returns-in-Err-clause-waits : goal.returns-in-Err-clause-waits
returns-in-Err-clause-waits c =
    let loop = c.loop-length in
    let inv = loop.invariant in
    let n = c.in-Some.length in
    let rest = loop.rest.now in
    let piece = c.args.piece.now in
    let err = c.in-Err.ensures.err in
    let waits = c.in-Err.ensures.waits in
    let all : length piece ≡ length inv.done + length rest = ap length (sym inv.split) ∙ length-append inv.done rest in
    let at : length piece - length rest + n ≡ length inv.done + n = omega arith in (
      ap (λ xs. get_or xs (length piece - length rest + n) 0) (sym inv.split)
          ∙ (ap (λ k. get_or (inv.done ++ rest) k 0) at ∙ (get_or-append-add inv.done rest n 0 ∙ is_newline rest n c.in-Some.ensures)),
      subst (λ u. IsTrue (has_answer u)) (sym err.1) waits.0,
      rw err.2 waits.1,
    )

pub returns-clause-fed : goal.returns-clause-fed
returns-clause-fed c =
    let loop = c.loop-length in
    let inv = loop.invariant in
    let rest = loop.rest.now in
    let start = c.args.tables.now in
    let before = c.args.cutter.now.unfinished in
    let begun = added rest loop.cutter.unfinished in
    let fed = feeds_same AnswersText start loop.tables before begun (inv.done ++ rest) (inv.text ++ []) inv.text loop.tables c.extend.new.self.unfinished (append-nil inv.text) refl (sym c.extend.ensures)
    (feeds_then AnswersText start loop.tables loop.tables before loop.cutter.unfinished begun inv.done rest inv.text [] inv.fed
    (feeds_quiet AnswersText loop.tables loop.cutter.unfinished rest (quiet_whole rest c.in_default.ensures))) in
    (inv.text, subst (λ bs. Feeds AnswersText start before bs inv.text loop.tables c.extend.new.self.unfinished) inv.split fed, inv.bytes)
