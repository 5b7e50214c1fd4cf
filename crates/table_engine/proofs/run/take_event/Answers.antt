use Rattle.std.proofs.Common.{◌≡◌, ◌++◌, sym, subst}
use Rattle.table_reply.specs.Buffer.{Buffer, Keeps, joined}
use Rattle.table_engine.specs.Run.{bytes_of}
use Rattle.table_engine.specs.Events.{taken_of}
use Rattle.table_engine.proofs.Told.{Run-length, AllOf-bytes, AllOf-taken, KeepsEach-one, Tells-one, Waits-each}
use Rattle.table_engine.proofs.run.take_event.Goals as goal

pub returns-in-Piece-clause-run : goal.returns-in-Piece-clause-run
returns-in-Piece-clause-run c =
    let run = c.feed.ensures.run in
    let s = c.in-Piece.session in
    let piece = bytes_of s c.in-Piece.bytes.now in
    let ss = taken_of c.feed.result piece in
    let within = rw c.in-Piece.is at c.requires.session in
    let all = AllOf-taken s c.feed.result piece (AllOf-bytes s c.in-Piece.bytes.now) in
    let told = subst (λ (b : Buffer). c.feed.new.out.bytes ≡ b.bytes ++ joined run.0) (sym c.index-outs-session.is) run.2 in
    rw c.in-Piece.is (run.0, run.1, Tells-one c.args.outs.now s c.index-outs-session.result c.feed.new.out ss run.0 within c.index-outs-session.is all (Run-length c.args.engine.now c.feed.new.self ss run.0 run.1) told)

pub returns-in-Piece-clause-waits : goal.returns-in-Piece-clause-waits
returns-in-Piece-clause-waits c =
    let s = c.in-Piece.session in
    let piece = bytes_of s c.in-Piece.bytes.now in
    let within = rw c.in-Piece.is at c.requires.session in
    rw c.in-Piece.is (Waits-each c.feed.new.self c.args.outs.now s c.feed.new.out piece within (AllOf-bytes s c.in-Piece.bytes.now) c.feed.result c.feed.ensures.waits)

pub returns-in-Piece-clause-kept : goal.returns-in-Piece-clause-kept
returns-in-Piece-clause-kept c =
    let old = c.index-outs-session in
    KeepsEach-one c.args.outs.now c.in-Piece.session old.result c.feed.new.out (rw c.in-Piece.is at c.requires.session) old.is
    (subst (λ (b : Buffer). Keeps b c.feed.new.out) (sym old.is) c.feed.ensures.kept)

pub returns-in-End-clause-kept : goal.returns-in-End-clause-kept
returns-in-End-clause-kept c =
    let old = c.index-outs-session-in-End in
    KeepsEach-one c.args.outs.now c.in-End.session old.result c.finish.new.out (rw c.in-End.is at c.requires.session) old.is
    (subst (λ (b : Buffer). Keeps b c.finish.new.out) (sym old.is) c.finish.ensures.kept)
