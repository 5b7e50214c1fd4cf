use Rattle.table_log.proofs.Feeding.{all_loaded, all_refused}
use Rattle.table_log.proofs.loading.load.Goals as goal

pub returns-in-Ok-clause-loaded : goal.returns-in-Ok-clause-loaded
returns-in-Ok-clause-loaded g c =
    all_loaded (g.D.Disk.contents c.args.disk.now) (g.D.Disk.size c.args.disk.now) c.in_ok-loader.loader c.load_all.new.loader c.args.start
    c.in_ok-loader.ensures.loading c.in-Ok.ensures.loaded (λ bytes known. g.met.D.Disk.counted c.args.disk.now bytes known)

pub returns-clause-refused : goal.returns-clause-refused
returns-clause-refused g c =
    all_refused (g.D.Disk.contents c.args.disk.now) c.in_ok-loader.loader c.args.start c.in-Err.why c.in_ok-loader.ensures.loading c.in-Err.ensures.refused

pub returns-in_err-loader-clause-same : goal.returns-in_err-loader-clause-same
returns-in_err-loader-clause-same g c = g.met.D.Disk.stays c.args.disk.now
