use Rattle.std.proofs.Common.{◌≡◌, ◌∙◌, arith, subst}
use Rattle.table_log.specs.Loading.{LoadsTo}
use Rattle.table_log.proofs.Feeding.{loads_on}
use Rattle.table_log.proofs.loading.load_all.Goals as goal

pub loop-at-preserved : goal.loop-at-preserved
loop-at-preserved g c =
    let inv = c.loop-at.invariant in
    let more = c.in-Ok.ensures in
    let old = c.loop-at.loader in
    let new = c.load_piece.new.loader in
    record {
      loads = loads_on (g.D.Disk.contents c.args.disk.now) 0 c.loop-at.at c.in-Ok.next c.args.loader.now old new inv.loads
          (subst (λ known. LoadsTo known c.loop-at.at old c.in-Ok.next new) inv.contents more.loaded);
      contents = more.contents ∙ inv.contents;
      size = more.size ∙ inv.size;
      synced = more.synced ∙ inv.synced;
      failures = more.failures ∙ inv.failures;
      number = omega (arith, more.grows.number, inv.number);
      line = omega (arith, more.grows.line, inv.line);
      within = omega (arith, more.end, inv.size, c.size-end.ensures);
      same = g.met.D.Disk.goes_on c.args.disk.now c.loop-at.disk c.load_piece.new.disk inv.same more.same;
    }

pub returns-clause-loaded : goal.returns-clause-loaded
returns-clause-loaded g c =
    let inv = c.loop-at.invariant in
    let all : c.loop-at.at ≡ g.D.Disk.size c.args.disk.now = omega (arith, inv.within, c.loop-at-test.false, c.size-end.ensures) in
    subst (λ n. LoadsTo (g.D.Disk.contents c.args.disk.now) 0 c.args.loader.now n c.loop-at.loader) all inv.loads
