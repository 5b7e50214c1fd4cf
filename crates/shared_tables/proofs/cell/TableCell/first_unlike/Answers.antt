use Rattle.std.proofs.Common.{◌≡◌, ◌≤◌, ◌<◌, ℕ, ap, sym, ◌∙◌, subst, length, arith, []}
use Rattle.shared_tables.specs.Journal.{own}
use Rattle.shared_tables.specs.Gathered.{FirstFailure, passes_of}
use Rattle.shared_tables.specs.Call.{CellData}
use Rattle.shared_tables.proofs.Passes.{first_of_all}
use Rattle.shared_tables.proofs.cell.TableCell.first_unlike.Goals as goal

pub overflow_cast-session-end : goal.overflow_cast-session-end
overflow_cast-session-end c =
    let few : length c.self.inside.tallies.items < 4294967296 = c.self.invariant.0.few in
    let count : c.len-workers.result ≡ length c.self.inside.tallies.items = c.len-workers.ensures ∙ c.self.inside.tallies.ok.0 in
    omega arith

pub returns : goal.returns
returns c =
    let cell = c.args.self.now in
    let workers : cell.workers ≡ length c.self.inside.tallies.items = ap (λ (d : CellData). d.workers) (sym c.self.view_is) in
    let journal : c.self.inside.journal.items ≡ cell.journal = ap (λ (d : CellData). d.journal) c.self.view_is in
    let count : c.len-workers.result ≡ length c.self.inside.tallies.items = c.len-workers.ensures ∙ c.self.inside.tallies.ok.0 in
    first_of_all cell c.args.passes.now c.first_beyond.result
    (λ session h. c.loop-session.invariant session (let end = c.loop-session-test.false in omega arith))
    (λ session h. ap (own session) (sym journal) ∙ c.self.invariant.0.others session (omega arith))
    (subst (λ (n : ℕ). FirstFailure (λ session. n ≤ session → passes_of session c.args.passes.now ≡ []) c.first_beyond.result) (count ∙ sym workers) c.first_beyond.ensures)
